-- KindNameFaults: where the reading of a vocabulary stops at the name of a kind, what stands before it, and what is wrong with the name.
--
--   begun b us                 the names of the kinds that begin in us; b: the first token is one
--   Named K b n y us           the tokens us end with `kind`, and name the kinds that have begun
--   named_by                   so do those that were read where a name of a kind is due
--   Wrong N u, why-wrong       u may not follow the names N of kinds, which is what kind_name_why tests
--
use mathlib.Core.Path.{◌≡◌, refl, sym, ◌∙◌, ap, subst}
use mathlib.Core.Bool.{Bool, true, false, cond, true≢false}
use mathlib.Core.List.{List, [], ◌∷◌, ◌++◌, append-nil, append_assoc}
use mathlib.Core.Logic.{◌⊎◌, inl, inr}
use Prim.Native.Nat.{ℕ, zero, suc, ◌<◌, ◌≤◌}
use native.Mathlib.Omega.{arith}
use lib.Dec.{ltb, leb}
use lib.ListN.{length, take}
use borrow.Author.Tests.{ltb-true, ltb-false, leb-false}
use Rattle.wire.specs.Vocabulary.{most_kinds}
use Rattle.wire.proofs.Cond.{cond_true, cond_false}
use Rattle.texts.specs.Lexemes.{Token}
use Rattle.texts.specs.Names.{same, kind_word, most_name, is_identifier, index_in, name_at}
use Rattle.texts.specs.Faults.{long_name, kind_name_due, kind_twice, many_kinds}
use Rattle.texts.specs.LexiconReading.{kind_name_why, Phase, at_kind, behind_kind, Declaring, Stepped, on, over, fails, step_kind, step_in, step}
use Rattle.texts.specs.Laws.{names_behind}
use Rattle.texts.proofs.Lookups.{same-eq, identifier-no_kind}
use Rattle.texts.proofs.KindNames.{name-fits}
use Rattle.texts.proofs.Gathering.{Left, Naming, Coming, naming, left-named, named-take}
use Rattle.texts.proofs.LexiconsRead.{and_on, walk}
use Rattle.texts.proofs.Begun.{Moves, to_name, past, moves, name-due, coming_move}

-- ---- all tokens up to the name

-- The names of the kinds that begin in us, where the first token is one (b) or not.
abbrev begun : Bool → List Token → List Token
begun true us = name_at us 0 ∷ names_behind us
begun false us = names_behind us

pub record Named (K : List Token) (b : Bool) (n : ℕ) (y : Declaring) (us : List Token) : Type 0 where
  pub front : List Token
  pub tokens : us ≡ front ++ (kind_word ∷ [])
  pub names : take y.kinds K ≡ take n K ++ begun b front

module _ (K vs : List Token) (y : Declaring) (due : y.phase ≡ at_kind) where
  -- Nothing is left to read, or the tokens end with `kind`.
  abbrev Ends : Declaring → List Token → Type 0
  Ends x us = ((us ≡ []) × (x ≡ y)) ⊎ Named K (naming x.phase) x.kinds y us

  abbrev More : List Token → Type 0
  More us = (x : Declaring) → Coming K (naming x.phase) x.kinds (us ++ vs) → walk K x us ≡ on y → Ends x us

  -- A token that is no name of a kind, and what follows it.
  behind_move : (x z : Declaring) (u : Token) (us : List Token) → naming x.phase ≡ false → Moves x z u → Ends z us →
      Named K false x.kinds y (u ∷ us)
  behind_move x z u us n (to_name h p k) (inl (e, s)) = record {
    front = [];
    tokens = λ i. same-eq u kind_word h i ∷ e i;
    names = ap (λ m. take m K) (ap (λ (d : Declaring). d.kinds) (sym s) ∙ k) ∙ sym (append-nil (take x.kinds K));
  }
  behind_move x z u us n (past h p f k) (inl (e, s)) =
      absurd (true≢false (ap naming (sym due) ∙ ap (λ (d : Declaring). naming d.phase) (sym s) ∙ p))
  behind_move x z u us n (to_name h p k) (inr t) = record {
    front = u ∷ t.front;
    tokens = ap (λ (ws : List Token). u ∷ ws) t.tokens;
    names =
        t.names ∙ ap (λ m. take m K ++ begun (naming z.phase) t.front) k ∙
        ap (λ (ws : List Token). take x.kinds K ++ ws)
        (ap (λ (q : Phase). begun (naming q) t.front) p ∙ sym (cond_true (same u kind_word) _ (names_behind t.front) h));
  }
  behind_move x z u us n (past h p f k) (inr t) = record {
    front = u ∷ t.front;
    tokens = ap (λ (ws : List Token). u ∷ ws) t.tokens;
    names =
        t.names ∙ ap (λ m. take m K ++ begun (naming z.phase) t.front) k ∙
        ap (λ (ws : List Token). take x.kinds K ++ ws)
        (ap (λ (c : Bool). begun c t.front) p ∙ sym (cond_false (same u kind_word) _ (names_behind t.front) h));
  }

  module _ (u : Token) (us : List Token) (more : More us) (x : Declaring) where
    abbrev n : ℕ
    n = x.kinds

    abbrev Follows : Stepped → Type 0
    Follows s = and_on s (λ z. walk K z us) ≡ on y

    behind-name : kind_name_why (take n K) u ≡ 0 → Naming K n (u ∷ (us ++ vs)) → (z : Declaring) → naming z.phase ≡ false →
        Ends z us → z.kinds ≡ suc n → Named K true n y (u ∷ us)
    behind-name h t z q (inl (e, s)) k =
        absurd (true≢false (ap naming (sym due) ∙ ap (λ (d : Declaring). naming d.phase) (sym s) ∙ q))
    behind-name h t z q (inr m) k =
        let no : same u kind_word ≡ false = identifier-no_kind u (name-fits 1 3 4 most_kinds (take n K) u h).identifier in
        record {
          front = u ∷ m.front;
          tokens = ap (λ (ws : List Token). u ∷ ws) m.tokens;
          names =
              m.names ∙ ap (λ i. take i K ++ begun (naming z.phase) m.front) k ∙
              ap (λ (ws : List Token). ws ++ begun (naming z.phase) m.front) (named-take K n u (us ++ vs) h t) ∙
              append_assoc (take n K) (u ∷ []) (begun (naming z.phase) m.front) ∙
              ap (λ (ws : List Token). take n K ++ (u ∷ ws))
              (ap (λ (c : Bool). begun c m.front) q ∙ sym (cond_false (same u kind_word) _ (names_behind m.front) no));
        }

    by_name : (why : ℕ) → kind_name_why (take n K) u ≡ why → Naming K n (u ∷ (us ++ vs)) → Follows (step_kind x why) → Named K true n y (u ∷ us)
    by_name (suc why) h t w = let z : ◌≡◌ {A = ℕ} 0 1 = cc in absurd (omega arith)
    by_name zero h t w =
        let z : Declaring = record { phase = behind_kind; kinds = suc n; names = x.names; done = x.done; last = x.last } in
        behind-name h t z refl (more z (left-named K n u (us ++ vs) h t) w) refl

    by_other : naming x.phase ≡ false → Left K n (u ∷ (us ++ vs)) → (s : Stepped) → step K x u ≡ s → Follows s → Named K false n y (u ∷ us)
    by_other q t over e w = let z : ◌≡◌ {A = ℕ} 0 1 = cc in absurd (omega arith)
    by_other q t (fails why) e w = let z : ◌≡◌ {A = ℕ} 0 1 = cc in absurd (omega arith)
    by_other q t (on z) e w =
        let m : Moves x z u = moves K x z u x.phase q e in
        behind_move x z u us q m (more z (coming_move K x z u (us ++ vs) m t) w)

    by : (b : Bool) → naming x.phase ≡ b → Coming K b n (u ∷ (us ++ vs)) → Follows (step K x u) → Named K b n y (u ∷ us)
    by true q t w =
        by_name (kind_name_why (take n K) u) refl t (subst (λ (p : Phase). Follows (step_in K x u p)) (name-due x.phase q) w)
    by false q t w = by_other q t (step K x u) refl w

  follow : (us : List Token) → More us
  follow [] x t w = let h : x ≡ y = cc in inl (refl, h)
  follow (u ∷ us) x t w = inr (by u us (follow us) x (naming x.phase) refl t w)

  pub named_by : (us : List Token) (x : Declaring) → naming x.phase ≡ false → Left K x.kinds (us ++ vs) → walk K x us ≡ on y →
      Named K false x.kinds y us
  named_by us x q t w = go (follow us x (subst (λ (c : Bool). Coming K c x.kinds (us ++ vs)) (sym q) t) w)
    where
      go : Ends x us → Named K false x.kinds y us
      go (inl (e, s)) = absurd (true≢false (ap naming (sym due) ∙ ap (λ (d : Declaring). naming d.phase) (sym s) ∙ q))
      go (inr m) = subst (λ (c : Bool). Named K c x.kinds y us) q m

-- ---- the name

abbrev pub Wrong : List Token → Token → Type 0
Wrong N u =
    (is_identifier u ≡ false) ⊎ ((most_name < length u) ⊎ ((index_in u N < length N) ⊎ (length N ≡ most_kinds)))

pub why-wrong : (N : List Token) (u : Token) (why : ℕ) → length N ≤ most_kinds → kind_name_why N u ≡ suc why → Wrong N u
why-wrong N u why f e =
    go (is_identifier u) (leb (length u) most_name) (ltb (index_in u N) (length N)) (ltb (length N) most_kinds) refl refl refl refl e
  where
    go : (a b c d : Bool) → is_identifier u ≡ a → leb (length u) most_name ≡ b → ltb (index_in u N) (length N) ≡ c → ltb (length N) most_kinds ≡ d →
        cond a (cond b (cond c kind_twice (cond d 0 many_kinds)) long_name) kind_name_due ≡ suc why → Wrong N u
    go false b c d p q r s e = inl p
    go true false c d p q r s e = inr (inl (omega (arith, leb-false (length u) most_name q)))
    go true true true d p q r s e = inr (inr (inl (ltb-true (index_in u N) (length N) r)))
    go true true false false p q r s e = inr (inr (inr (omega (arith, ltb-false (length N) most_kinds s))))
    go true true false true p q r s e = absurd (omega arith)
