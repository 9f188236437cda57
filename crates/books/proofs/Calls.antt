-- Calls: the whole call from its parts.
--
--   input_passed_on, turn_passed_on    the refusal that is passed on
--   turn_refused_is           that of a turn has the same numbers
--   book_refused_lem, inputs_refused    where reading the inputs refuses, so does list_book, in the same way
--   some_bytes            an accepted vocabulary has a word count
--   book_at, book_listed_lem  the call where both are accepted
--
use mathlib.Core.Path.{◌≡◌, refl, sym, ap, ◌∙◌, subst}
use mathlib.Core.List.{List, []}
use Prim.Native.Nat.{ℕ, ◌<◌, ◌≤◌}
use native.Mathlib.Omega.{arith}
use lib.ListN.{length, get_or}
use Rattle.wire.specs.Reply.{Reply, accepted, refused, IsBytes}
use Rattle.wire.specs.Effect.{HasEffect}
use Rattle.wire.specs.Parser.{Reading, accept, refuse, read_vocabulary}
use Rattle.wire.specs.Vocabulary.{Vocabulary, HoldsVocabulary}
use Rattle.wire.specs.VocabularyLines.{byte_at}
use Rattle.wire.specs.BookLeftovers.{BookPromise}
use Rattle.wire.specs.BookComputed.{Book, read_book, BookJudged, listable, unlistable, judged_book, judged_under, book_judged, book_clear, book_with, book_listed}
use Rattle.wire.proofs.Bytes.{bytes_of}
use Rattle.wire.proofs.VocabulariesInverse.{vocabularies_inverse}
use Rattle.wire.proofs.Theorems.{books_inverse, book_keeps}
use Rattle.signature.specs.Tables.{accepted_in}
use Rattle.signature.specs.Settled.{SettledOf}
use Rattle.std.specs.Prelude.{Option}
use Rattle.reader.specs.Loaded.{SettledTable}
use Rattle.std.specs.Prelude.{Result, Ok, Err, IsErrAnd}
use Rattle.signature.specs.Answers.{vocabulary_refused}
use Rattle.reader.specs.Answers.{book_refused, book_numbers}
use Rattle.reader.specs.declared.book.BookInputRefusal.{BookInputRefusal}
use Rattle.reader.specs.declared.book.BookInputRefusal.TheVariants as I
use Rattle.reader.proofs.Refused.{Refuses, vocabulary-refuses, book_refuses}
use Rattle.sizes.specs.declared.Size.{Size}
use Rattle.books.specs.Answers.{input_refusal_of, turn_refusal_of, book_list_numbers}
use Rattle.books.specs.Turning.{turn_numbers, BookAt}
use Rattle.books.specs.declared.BookListRefusal.{BookListRefusal}
use Rattle.books.specs.declared.turns.TurnRefusal.{TurnRefusal}
use Rattle.books.specs.declared.turns.TurnRefusal.TheVariants as T
use Rattle.books.specs.Calls.{ListsBook}

-- A refusal that is passed on.
pub input_passed_on : (r : Result Size BookListRefusal) (why : BookInputRefusal) → IsErrAnd r (λ e. e ≡ input_refusal_of why) → r ≡ Err (input_refusal_of why)
input_passed_on (Ok size) why h = absurd h
input_passed_on (Err e) why h = ap Err h

pub turn_passed_on : (r : Result Size BookListRefusal) (why : TurnRefusal) → IsErrAnd r (λ e. e ≡ turn_refusal_of why) → r ≡ Err (turn_refusal_of why)
turn_passed_on (Ok size) why h = absurd h
turn_passed_on (Err e) why h = ap Err h

-- It has the same numbers.
pub turn_refused_is : (why : TurnRefusal) → book_list_numbers (Err (turn_refusal_of why)) ≡ turn_numbers (Err why)
turn_refused_is (T.NoRoom bytes) = refl
turn_refused_is (T.Past i) = refl

-- The inputs that are judged to be in order are read so.
record Found (v b : List ℕ) : Type 0 where
  vocabulary : Vocabulary
  book : Book
  read : read_vocabulary v ≡ accept vocabulary
  reads : read_book vocabulary b ≡ accept book
  judged : book_judged v b ≡ listable vocabulary book

module _ (v b before : List ℕ) (vocabularyBytes : (i : ℕ) → get_or v i 0 < 256) (bookBytes : (i : ℕ) → get_or b i 0 < 256) where
  bv : IsBytes v
  bv = bytes_of v vocabularyBytes

  bb : IsBytes b
  bb = bytes_of b bookBytes

  promised : {r : Reply} {after : List ℕ} → HasEffect (book_listed v b before) r after → BookPromise v b before after r
  promised {r} {after} s =
      subst (λ r. BookPromise v b before after r) (sym s.reply)
      (subst (λ a. BookPromise v b before a (book_listed v b before).reply) (sym s.after) (book_keeps v b before bv bb))

  book_refused_lem : (r : Reply) → Refuses r → r ≡ book_clear (book_judged v b) → BookPromise v b before before r
  book_refused_lem r k e = promised (go (book_judged v b) e)
    where
      go : (j : BookJudged) → r ≡ book_clear j → HasEffect (book_with before j) r before
      go (unlistable n i q) e = record { reply = e; after = refl }
      go (listable W x) e = absurd (subst Refuses e k)

  pub inputs_refused : (why : BookInputRefusal) → book_numbers (Err why) ≡ book_clear (book_judged v b) →
      BookPromise v b before before (book_list_numbers (Err (input_refusal_of why)))
  inputs_refused (I.Vocabulary why) e = book_refused_lem (vocabulary_refused why) (vocabulary-refuses why) e
  inputs_refused (I.Book why) e = book_refused_lem (book_refused why) (book_refuses why) e

  module _ (e : accepted [] ≡ book_clear (book_judged v b)) where
    found : Found v b
    found = vocabulary (read_vocabulary v) refl
      where
        -- A reply that refuses is none that accepts.
        never : (n i q : ℕ) → accepted [] ≡ refused n i q → ⊥
        never n i q f = subst Refuses (sym f) tt

        book : (W : Vocabulary) → read_vocabulary v ≡ accept W → (r : Reading Book) → read_book W b ≡ r → Found v b
        book W f (accept x) g = record { vocabulary = W; book = x; read = f; reads = g; judged = ap (judged_under b) f ∙ ap (judged_book W) g }
        book W f (refuse n q) g = absurd (never n 5 q (e ∙ ap (λ r. book_clear (judged_under b r)) f ∙ ap (λ r. book_clear (judged_book W r)) g))

        vocabulary : (r : Reading Vocabulary) → read_vocabulary v ≡ r → Found v b
        vocabulary (accept W) f = book W f (read_book W b) refl
        vocabulary (refuse n q) f = absurd (never n 0 q (e ∙ ap (λ r. book_clear (judged_under b r)) f))

    abbrev W : Vocabulary
    W = found.vocabulary

    abbrev x : Book
    x = found.book

    held : HoldsVocabulary v W
    held = (vocabularies_inverse v W bv).0 found.read

    pub some_bytes : 2 ≤ length v
    some_bytes = let e = ap length held.written in omega arith

    module _ {words : ℕ} {settled : List ℕ} {missing : Option ℕ} (counted : words ≡ byte_at v 1) (table : SettledTable v settled missing) where
      pub book_at : BookAt b words settled missing
      book_at = record {
        vocabulary = W;
        kind = x.kind;
        patterns = x.patterns;
        in_order = held.in_order;
        settled_of =
            subst (λ n. SettledOf W n settled missing) (sym counted)
            (subst (λ U. SettledOf U (byte_at v 1) settled missing) (ap accepted_in found.read) table.of);
        held = (books_inverse W b x.kind x.patterns held.in_order bb).0 found.reads;
      }

      pub book_listed_lem : {r r' : Reply} {after : List ℕ} → r ≡ r' → ListsBook b words settled missing before after r' → BookPromise v b before after r
      unfolding book_at
      book_listed_lem {r} {r'} {after} same s =
          subst (λ l. BookPromise v b before after l) (sym same)
          (promised (subst (λ l. HasEffect l r' after) (sym (ap (book_with before) found.judged)) (s book_at)))
