-- BookTables: what reading a vocabulary and a book gives, by what reading each gives.
--
--   book_vocabulary, book_refused_lem, book_loaded    the vocabulary is refused, the book is, or neither
--
use mathlib.Core.Path.{◌≡◌, sym, ap, ◌∙◌, subst}
use mathlib.Core.List.{List}
use Prim.Native.Nat.{ℕ}
use native.Mathlib.Omega.{arith}
use lib.ListN.{replicate}
use Rattle.wire.specs.Vocabulary.{most_words}
use Rattle.signature.specs.Tables.{vocabulary_in}
use Rattle.signature.specs.Settled.{settled_numbers, SettledFrom}
use Rattle.signature.specs.declared.VocabularyRefusal.{VocabularyRefusal}
use Rattle.std.specs.Prelude.{⊤, Option, Result, Ok, Err}
use Rattle.reader.specs.Books.{BookRead, patterns_numbers, book_reply}
use Rattle.reader.specs.Loaded.{SettledTable}
use Rattle.reader.specs.declared.book.BookRefusal.{BookRefusal}
use Rattle.reader.specs.declared.book.BookInputRefusal.TheVariants as A
use Rattle.reader.proofs.Loaded.{settled-table}
use Rattle.reader.proofs.Books.{books_refused, books_judged}

module _ {v o m s o' r' m' s' : List ℕ} {a : Result (Option ℕ) VocabularyRefusal} (loaded : SettledFrom v o (replicate most_words 0) m s o' r' m' s' a) where
  pub book_vocabulary : (b : List ℕ) (why : VocabularyRefusal) → a ≡ Err why → BookRead v b s s' (Err (A.Vocabulary why))
  book_vocabulary b why e = record {
    answer = books_refused v b why (sym (ap settled_numbers e) ∙ loaded.answer);
    settles = λ k d. absurd (let z : ◌≡◌ {A = ℕ} 0 1 = cc in omega arith);
    refused = λ why d. absurd (let z : ◌≡◌ {A = ℕ} 0 1 = cc in omega arith);
    kept = λ _ _. loaded.kept why e;
  }

  module _ (b : List ℕ) (k : Option ℕ) (e : a ≡ Ok k) (x : Result ⊤ BookRefusal) (read : patterns_numbers x ≡ book_reply (vocabulary_in v) b) where
    pub book_refused_lem : (why : BookRefusal) → x ≡ Err why → BookRead v b s s' (Err (A.Book why))
    book_refused_lem why d = record {
      answer = books_judged v b (vocabulary_in v) (loaded.tables k e).accepted (sym (ap patterns_numbers d) ∙ read);
      settles = λ k d. absurd (let z : ◌≡◌ {A = ℕ} 0 1 = cc in omega arith);
      refused = λ _ _. (k, settled-table loaded k e);
      kept = λ why d. absurd (let z : ◌≡◌ {A = ℕ} 0 1 = cc in omega arith);
    }

    pub book_loaded : x ≡ Ok tt → BookRead v b s s' (Ok k)
    book_loaded d = record {
      answer = books_judged v b (vocabulary_in v) (loaded.tables k e).accepted (sym (ap patterns_numbers d) ∙ read);
      settles = λ j d. let same : k ≡ j = cc in subst (SettledTable v s') same (settled-table loaded k e);
      refused = λ why d. absurd (let z : ◌≡◌ {A = ℕ} 0 1 = cc in omega arith);
      kept = λ why d. absurd (let z : ◌≡◌ {A = ℕ} 0 1 = cc in omega arith);
    }
