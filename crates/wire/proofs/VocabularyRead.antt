-- VocabularyRead: what read_vocabulary gives is right, line by line of the refusal list.
--
--   Accepted, VocabularyRead  what it means that the reading of a vocabulary is right
--   Headed                    lines 1 and 2 do not fit
--   vocabulary-read           it is right for every vocabulary
--
use mathlib.Core.Path.{◌≡◌, refl, sym, ◌∙◌}
use mathlib.Core.Bool.{Bool, true, false, cond}
use mathlib.Core.List.{List, [], ◌∷◌, append-nil}
use mathlib.Core.Logic.{◌⊎◌, inl, inr}
use Prim.Native.Nat.{ℕ, ◌<◌, ◌≤◌}
use native.Mathlib.Omega.{arith}
use lib.Dec.{ltb, lit<}
use lib.ListN.{length, drop}
use borrow.Author.Tests.{ltb-true, ltb-false}
use Rattle.terms.specs.Lists.{All}
use Rattle.wire.specs.Parser.{Reading, accept, refuse, Got, got, stop, offset, read_words, line5, read_vocabulary}
use Rattle.wire.specs.Reply.{IsBytes, outside, Outside}
use Rattle.wire.specs.Vocabulary.{Word, Vocabulary, WordInOrder, InOrder, encode_words, encode_vocabulary, most_kinds, most_words}
use Rattle.wire.specs.Refusals.{Sooner, Decides}
use Rattle.wire.specs.VocabularyLines.{byte_at, record_at, words_of, VocabularyLine, head, count, ends, kind, more}
use Rattle.wire.proofs.Bytes.{drop-begins, drop-ends, offset-drop}
use Rattle.wire.proofs.Outside.{outside_true, outside_false, no-outside}
use Rattle.wire.proofs.Inverse.{ReadOff}
use Rattle.wire.proofs.WordsInverse.{words_inverse}
use Rattle.wire.proofs.Records.{after, record-after, KindFrom, kind_byte_from, kind-byte}
use Rattle.wire.proofs.Parts.{Why, Stopped, Came}
use Rattle.wire.proofs.WordsRead.{words-read}

-- What read_vocabulary has to give of the bytes b.
pub record Accepted (b : List ℕ) (W : Vocabulary) : Type 0 where
  pub in_order : InOrder W
  pub bytes : b ≡ encode_vocabulary W
  pub no_line : (n q : ℕ) → VocabularyLine b n q → ⊥

abbrev pub VocabularyRead : List ℕ → Reading Vocabulary → Type 0
VocabularyRead b (accept W) = Accepted b W
VocabularyRead b (refuse n q) = Decides (VocabularyLine b) n q

-- Lines 1 and 2 do not fit the bytes b.
pub record Headed (b : List ℕ) : Type 0 where
  pub long : 2 ≤ length b
  pub some_kind : 1 ≤ byte_at b 0
  pub few_kinds : byte_at b 0 ≤ most_kinds
  pub some_word : 1 ≤ words_of b
  pub few_words : words_of b ≤ most_words

-- Line 1 comes before all others.
first-line : (b : List ℕ) (m r : ℕ) → VocabularyLine b m r → Sooner 1 0 m r
first-line b m r (head h) = inr (refl, inr (refl, omega arith))
first-line b m r (count g h) = inl (lit< tt)
first-line b m r (ends g h) = inl (lit< tt)
first-line b m r (kind q k h l) = inl (lit< tt)
first-line b m r (more h) = inl (lit< tt)

no-head : (b : List ℕ) → 2 ≤ length b → 1 ≤ byte_at b 0 → byte_at b 0 ≤ most_kinds → (length b < 2) ⊎ Outside 1 most_kinds (byte_at b 0) → ⊥
no-head b h l m (inl o) = omega arith
no-head b h l m (inr o) = no-outside 1 most_kinds (byte_at b 0) l m o

-- Line 2 comes before all others but line 1.
second_line : (b : List ℕ) → 2 ≤ length b → 1 ≤ byte_at b 0 → byte_at b 0 ≤ most_kinds → (m r : ℕ) → VocabularyLine b m r → Sooner 2 1 m r
second_line b h l k m r (head o) = absurd (no-head b h l k o)
second_line b h l k m r (count g o) = inr (refl, inr (refl, omega arith))
second_line b h l k m r (ends g o) = inl (lit< tt)
second_line b h l k m r (kind q y o p) = inl (lit< tt)
second_line b h l k m r (more o) = inl (lit< tt)

fourth_again : (p q : ℕ) → ¬ (q < p) → Sooner 4 p 4 q
fourth_again p q h = go (ltb p q) refl
  where
    go : (t : Bool) → ltb p q ≡ t → Sooner 4 p 4 q
    go true t = inr (refl, inl (ltb-true p q t))
    go false t = inr (refl, inr (omega (arith, ltb-false p q t), omega arith))

-- The records of b, which lines 1 and 2 do not fit.
module _ (b : List ℕ) (headed : Headed b) where
  no-first : (length b < 2) ⊎ Outside 1 most_kinds (byte_at b 0) → ⊥
  no-first o = no-head b headed.long headed.some_kind headed.few_kinds o

  no_second : Outside 1 most_words (words_of b) → ⊥
  no_second o = no-outside 1 most_words (words_of b) headed.some_word headed.few_words o

  -- Line 3, where a byte is missing and the kind bytes are in order.
  third_line : length b < record_at b (words_of b) → ((q : ℕ) → KindFrom b (words_of b) 2 q → q < length b → byte_at b q < byte_at b 0) →
      (m r : ℕ) → VocabularyLine b m r → Sooner 3 (length b) m r
  third_line h clean m r (head o) = absurd (no-first o)
  third_line h clean m r (count g o) = absurd (no_second o)
  third_line h clean m r (ends g o) = inr (refl, inr (refl, omega arith))
  third_line h clean m r (kind q y o p) = absurd (omega (arith, clean q (kind_byte_from b q y) o))
  third_line h clean m r (more o) = inl (lit< tt)

  -- Line 4 at p, where the kind bytes before it are in order.
  fourth_line : (p : ℕ) → p < length b → ((q : ℕ) → KindFrom b (words_of b) 2 q → q < p → byte_at b q < byte_at b 0) →
      (m r : ℕ) → VocabularyLine b m r → Sooner 4 p m r
  fourth_line p h clean m r (head o) = absurd (no-first o)
  fourth_line p h clean m r (count g o) = absurd (no_second o)
  fourth_line p h clean m r (ends g o) = inr (refl, inl h)
  fourth_line p h clean m r (kind q y o l) = fourth_again p q (λ before. omega (arith, clean q (kind_byte_from b q y) before))
  fourth_line p h clean m r (more o) = inl (lit< tt)

  -- Line 5, where the records are in order.
  fifth_line : record_at b (words_of b) ≤ length b → ((q : ℕ) → KindFrom b (words_of b) 2 q → byte_at b q < byte_at b 0) →
      (m r : ℕ) → VocabularyLine b m r → Sooner 5 (record_at b (words_of b)) m r
  fifth_line h clean m r (head o) = absurd (no-first o)
  fifth_line h clean m r (count g o) = absurd (no_second o)
  fifth_line h clean m r (ends g o) = absurd (omega arith)
  fifth_line h clean m r (kind q y o p) = absurd (omega (arith, clean q (kind_byte_from b q y)))
  fifth_line h clean m r (more o) = inr (refl, inr (refl, omega arith))

  -- No line fits where the records are in order and nothing follows them.
  no_line : record_at b (words_of b) ≡ length b → ((q : ℕ) → KindFrom b (words_of b) 2 q → byte_at b q < byte_at b 0) →
      (m r : ℕ) → VocabularyLine b m r → ⊥
  no_line h clean m r (head o) = no-first o
  no_line h clean m r (count g o) = no_second o
  no_line h clean m r (ends g o) = omega arith
  no_line h clean m r (kind q y o p) = omega (arith, clean q (kind_byte_from b q y))
  no_line h clean m r (more o) = omega arith

  stopped_decides : (n : ℕ) (r : List ℕ) → Stopped b (byte_at b 0) (record_at b (words_of b)) (KindFrom b (words_of b) 2) n r →
      Decides (VocabularyLine b) n (offset b r)
  stopped_decides n r s = go s.place s.rest s.clean s.why
    where
      go : (p : ℕ) → r ≡ drop p b → ((q : ℕ) → KindFrom b (words_of b) 2 q → q < p → byte_at b q < byte_at b 0) →
          Why b (byte_at b 0) (record_at b (words_of b)) (KindFrom b (words_of b) 2) n p → Decides (VocabularyLine b) n (offset b r)
      go p d clean (inl (number, place, h)) =
          let here : offset b r ≡ length b = offset-drop b r p d (omega arith) ∙ place in
          rw (number, here) (record { fits = ends headed.long h; first = third_line h (λ q y l. clean q y (omega arith)) })
      go p d clean (inr (number, inside, y, h)) =
          let here : offset b r ≡ p = offset-drop b r p d (omega arith) in
          rw (number, here) (record { fits = kind p (kind-byte b p y) inside h; first = fourth_line p inside clean })

  more_decides : (r : List ℕ) → r ≡ drop (record_at b (words_of b)) b → record_at b (words_of b) < length b →
      ((q : ℕ) → KindFrom b (words_of b) 2 q → byte_at b q < byte_at b 0) → Decides (VocabularyLine b) 5 (offset b r)
  more_decides r d h clean =
      let here : offset b r ≡ record_at b (words_of b) = offset-drop b r (record_at b (words_of b)) d (omega arith) in
      rw here (record { fits = more h; first = fifth_line (omega arith) clean })

-- What is left to judge once lines 1 and 2 do not fit.
line5-read : (b : List ℕ) → Headed b → (g : Got (List Word)) → b ≡ byte_at b 0 ∷ words_of b ∷ drop 2 b →
    ReadOff encode_words (λ ws. (length ws ≡ words_of b) × All (WordInOrder (byte_at b 0)) ws) (drop 2 b) g →
    Came b (byte_at b 0) (after b (words_of b) 2) (KindFrom b (words_of b) 2) g → VocabularyRead b (line5 b (byte_at b 0) g)
line5-read b headed (stop n r) whole off s = stopped_decides b headed n r (rw (record-after b (words_of b)) s)
line5-read b headed (got ws (x ∷ r)) whole off passed =
    more_decides b headed (x ∷ r) (rw (record-after b (words_of b)) passed.rest)
    (rw (record-after b (words_of b)) (drop-begins b (after b (words_of b) 2) x r (sym passed.rest)).inside)
    passed.clean
line5-read b headed (got ws []) whole ((number, wordsInOrder), bytes) passed =
    record {
      in_order = record {
        some_kind = headed.some_kind;
        few_kinds = headed.few_kinds;
        some_word = omega (arith, headed.some_word);
        few_words = omega (arith, headed.few_words);
        words = wordsInOrder;
      };
      bytes = cc (append-nil (encode_words ws));
      no_line = no_line b headed
          (rw (record-after b (words_of b)) (omega (arith, passed.inside, drop-ends b (after b (words_of b) 2) (sym passed.rest))))
          passed.clean;
    }

pub vocabulary-read : (b : List ℕ) → IsBytes b → VocabularyRead b (read_vocabulary b)
vocabulary-read [] bytes = record { fits = head (inl (lit< tt)); first = first-line [] }
vocabulary-read (k ∷ []) bytes = record { fits = head (inl (lit< tt)); first = first-line (k ∷ []) }
vocabulary-read (k ∷ n ∷ l) bytes = go (outside 1 most_kinds k) refl (outside 1 most_words n) refl
  where
    b : List ℕ
    b = k ∷ n ∷ l

    go : (t : Bool) → outside 1 most_kinds k ≡ t → (u : Bool) → outside 1 most_words n ≡ u →
        VocabularyRead b (cond t (refuse 1 0) (cond u (refuse 2 1) (line5 b k (read_words k n l))))
    go true t u v = record { fits = head (inr (outside_true 1 most_kinds k t)); first = first-line b }
    go false t true v =
        let h = outside_false 1 most_kinds k t in
        record { fits = count (omega arith) (outside_true 1 most_words n v); first = second_line b (omega arith) h.0 h.1 }
    go false t false v =
        let h = outside_false 1 most_kinds k t in
        let j = outside_false 1 most_words n v in
        line5-read b
        (record { long = omega arith; some_kind = h.0; few_kinds = h.1; some_word = j.0; few_words = j.1 })
        (read_words k n l) refl ((words_inverse k n).read l bytes.1.1) (words-read b k n 2 l refl (omega arith))
