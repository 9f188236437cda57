-- Linear: the listing of an accepted pattern is measured, refused where there is no room, and else written.
use mathlib.Core.Path.{◌≡◌, refl, sym, ap, ap₂, ◌∙◌, subst}
use mathlib.Core.Bool.{Bool, true, false}
use mathlib.Core.List.{List, [], ◌∷◌, ◌++◌}
use Prim.Native.Nat.{ℕ, ◌<◌, ◌≤◌, min}
use native.Mathlib.Nat.{le-max_right, min-eq_left}
use native.Mathlib.Omega.{arith}
use lib.Dec.{leb}
use lib.ListN.{length, drop}
use borrow.Author.Tests.{le-leb, lt-leb}
use Rattle.terms.specs.Term.{Term, any, var, app}
use Rattle.wire.specs.Reply.{accepted, refused}
use Rattle.wire.specs.Map.{is_open}
use Rattle.wire.specs.Vocabulary.{Vocabulary, most_words}
use Rattle.wire.specs.TermBytes.{encode_at, encode_root, levels, most_bytes}
use Rattle.wire.specs.Effect.{Effect, HasEffect}
use Rattle.wire.specs.ListComputed.{entries_of, listed_into}
use Rattle.wire.specs.Leftovers.{entries_bytes}
use Rattle.wire.proofs.Cond.{cond_true, cond_false}
use Rattle.wire.proofs.EntryBytes.{entries-bytes}
use Rattle.kinds.specs.Kinds.{Chained}
use Rattle.sizes.specs.Sizes.{Measured}
use Rattle.sizes.proofs.Patterns.{pattern-sizes}
use Rattle.complement.specs.Entering.{TablesOf, TermAt, TermListed}
use Rattle.complement.specs.Calls.{Patterned, bytes_of}

-- ---- what listed_into shows

module _ (before : List ℕ) (n : ℕ) (b : List ℕ) (entries bytes : ℕ) (counts : entries ≡ n) (sizes : bytes ≡ length b) where
  pub shows_no_room : length before < bytes → HasEffect (listed_into before n b) (refused 20 3 bytes) before
  shows_no_room h =
      let e : listed_into before n b ≡ record { reply = refused 20 3 (length b); after = before } =
      cond_false (leb (length b) (length before)) _ _ (lt-leb (length b) (length before) (omega arith)) in
      record {
        reply = ap (refused 20 3) sizes ∙ sym (ap (λ (l : Effect). l.reply) e);
        after = sym (ap (λ (l : Effect). l.after) e);
      }

  pub shows_written : bytes ≤ length before → {after : List ℕ} → after ≡ b ++ drop (length b) before →
      HasEffect (listed_into before n b) (accepted (entries ∷ bytes ∷ [])) after
  shows_written h {after} a =
      let e : listed_into before n b ≡ record { reply = accepted (n ∷ length b ∷ []); after = b ++ drop (length b) before } =
      cond_true (leb (length b) (length before)) _ _ (le-leb (length b) (length before) (omega arith)) in
      record {
        reply = ap₂ (λ x y. accepted (x ∷ y ∷ [])) counts sizes ∙ sym (ap (λ (l : Effect). l.reply) e);
        after = a ∙ sym (ap (λ (l : Effect). l.after) e);
      }

nothing : (b : List ℕ) → length b ≡ 0 → b ≡ []
nothing [] e = refl
nothing (x ∷ b) e = absurd (omega arith)

-- ---- the pattern's entries

module _ {p : List ℕ} {words : ℕ} {results : List ℕ} (h : Patterned p words results) where
  abbrev W : Vocabulary
  W = h.vocabulary

  abbrev s : ℕ
  s = h.kind

  abbrev t : Term
  t = h.term

  abbrev pub entry_count : ℕ
  entry_count = length (entries_of W s t)

  abbrev pub entry_bytes : List ℕ
  entry_bytes = bytes_of h

  few_words : words ≤ most_words
  few_words = omega (arith, h.tabled.words, h.in_order.few_words)

  pub within_most : length p ≤ 4096
  within_most = h.held.limits.most

  module _ {entries bytes : ℕ} (m : Measured words results p entries bytes) where
    sizes_are : (entries ≡ entry_count) × (bytes ≡ length entry_bytes)
    sizes_are =
        pattern-sizes W h.in_order s t h.held.good (omega (arith, within_most, ap length h.held.written)) words results h.tabled.words
        h.tabled.result entries bytes (subst (λ l. Measured words results l entries bytes) h.held.written m)

  -- The tables of its vocabulary.
  tables-of : {chains : List ℕ} → Chained (min words most_words) results chains → TablesOf W results chains
  tables-of {chains} c = record {
    in_order = h.in_order;
    tabled = record { words = refl; result = λ f l. h.tabled.result f (omega (arith, h.tabled.words)) };
    chained = subst (λ n. Chained n results chains) (min-eq_left few_words ∙ h.tabled.words) c;
  }

  -- A pattern with entries is no open place.
  not_open : (t : Term) → (length (entries_bytes W (entries_of W s t)) ≡ 0 → ⊥) → is_open t ≡ false
  not_open any e = absurd (e refl)
  not_open (var n) e = refl
  not_open (app f ts) e = refl

  root-same : (t : Term) → is_open t ≡ false → encode_root W t ≡ encode_at W t
  root-same any e = absurd (mathlib.Core.Bool.true≢false e)
  root-same (var n) e = refl
  root-same (app f ts) e = refl

  -- The root in a copy of the pattern.
  module _ {chains : List ℕ} (chained : Chained (min words most_words) results chains) (copy : List ℕ) {copied : List ℕ} (c : copied ≡ p ++ drop (length p) copy) (size : length copied ≤ most_bytes) (before : List ℕ)
      (room : (0 < length entry_bytes) × (length entry_bytes ≤ length before)) where
    closed : is_open t ≡ false
    closed = not_open t (λ e. let k = room.0 in omega arith)

    pub root-term : TermAt copied 1 results chains 32 (length before)
    root-term = record {
      vocabulary = W;
      front = s ∷ [];
      term = t;
      kind = s;
      rest = drop (length p) copy;
      tables = tables-of chained;
      size = size;
      begins = refl;
      sorted = h.held.good.sorted.sorted;
      closed = closed;
      stands =
          c ∙ ap (λ l. l ++ drop (length p) copy) (h.held.written ∙ ap (λ l. s ∷ l) (root-same t closed));
      deep = omega (arith, h.held.limits.levels, le-max_right 1 (levels t));
      fits = let k = room.1 in omega (arith, ap length (entries-bytes W s t));
    }

    pub root-listed : {copied' after : List ℕ} {end n : ℕ} → TermListed root-term copied' before after end n →
        after ≡ entry_bytes ++ drop (length entry_bytes) before
    unfolding root-term
    root-listed l = l.written.same ∙ ap (λ b. b ++ drop (length b) before) (sym (entries-bytes W s t))

  -- The three answers.
  module _ {entries bytes : ℕ} (m : Measured words results p entries bytes) (before : List ℕ) where
    pub linear-no_room : length before < bytes → HasEffect (listed_into before entry_count entry_bytes) (refused 20 3 bytes) before
    linear-no_room = shows_no_room before entry_count entry_bytes entries bytes (sizes_are m).0 (sizes_are m).1

    pub linear_none : bytes ≤ length before → bytes ≡ 0 → HasEffect (listed_into before entry_count entry_bytes) (accepted (entries ∷ bytes ∷ [])) before
    linear_none k e =
        shows_written before entry_count entry_bytes entries bytes (sizes_are m).0 (sizes_are m).1 k
        (sym (ap (λ b. b ++ drop (length b) before) (nothing entry_bytes (sym (sizes_are m).1 ∙ e))))

    pub linear-room : bytes ≤ length before → (bytes ≡ 0 → ⊥) → (0 < length entry_bytes) × (length entry_bytes ≤ length before)
    linear-room k e = (omega (arith, (sizes_are m).1), omega (arith, (sizes_are m).1))

    pub linear-written : bytes ≤ length before → {after : List ℕ} → after ≡ entry_bytes ++ drop (length entry_bytes) before →
        HasEffect (listed_into before entry_count entry_bytes) (accepted (entries ∷ bytes ∷ [])) after
    linear-written k = shows_written before entry_count entry_bytes entries bytes (sizes_are m).0 (sizes_are m).1 k
