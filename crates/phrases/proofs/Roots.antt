-- Roots: what stands at the root of a pattern.
--
--   colon_missing, kind_missing, kind-unknown, kind-named     the kind behind a root that is open or a variable
--   leaf_refused, leaf_read      a root of one byte
--
use mathlib.Core.Path.{◌≡◌, refl, sym, ap, ap₂, subst, ◌∙◌}
use mathlib.Core.Bool.{true, false, cond}
use mathlib.Core.List.{List, [], ◌∷◌}
use Prim.Native.Nat.{ℕ, ◌+◌, ◌<◌, ◌≤◌}
use native.Mathlib.Omega.{arith}
use lib.Dec.{ltb}
use lib.ListN.{length, take, drop, set}
use borrow.Author.Tests.{lt-ltb, le-ltb}
use Rattle.wire.specs.TermBytes.{most_bytes}
use Rattle.wire.proofs.Cond.{cond_true, cond_false}
use Rattle.texts.specs.Lexemes.{Token, Lexeme, blanks, token_size, lexemes_from, token_at}
use Rattle.texts.specs.Names.{same, mark, colon, is_identifier, index_in}
use Rattle.texts.specs.Faults.{Parsed, parsed, bad, token, rest, not_declared, place_due, colon_due}
use Rattle.texts.specs.PhraseReading.{TermRead, PhraseRead, phrase_read, fault_at, read_root_kind}
use Rattle.texts.specs.Tabled.{names_in}
use Rattle.texts.proofs.Scanning.{token_none}
use Rattle.clauses.specs.Reading.{Front}
use Rattle.phrases.specs.Phrases.{ReadsPhrase, ReadsKind, ReadsLeaf}
use Rattle.faults.specs.declared.Fault.{Fault}
use Rattle.faults.specs.declared.Reason.TheVariants.{PlaceDue, NotDeclared, ColonDue}
use Rattle.std.specs.Prelude.{Ok, Err}
use Rattle.clauses.proofs.Fronts.{front-token, front-place, front, mark_some, identifier_some}
use Rattle.clauses.proofs.Tables.{names-count}

-- ---- the kind

module _ (b g : List ℕ) (at k s : ℕ) (inside : at ≤ length b) (start : s ≡ at + blanks (drop at b)) where
  abbrev names : List Token
  names = names_in b (take k g)

  abbrev kind_named : TermRead → List Lexeme → Parsed PhraseRead
  kind_named a m =
      cond (is_identifier (token m))
      (cond (ltb (index_in (token m) names) (length names)) (parsed (phrase_read (index_in (token m) names) a) (rest m)) (fault_at not_declared 0 m))
      (fault_at place_due 0 m)

  pub colon_missing : same (token_at b s) (58 ∷ []) ≡ false → ReadsKind b at g k (Err (record { why = ColonDue; at = s; of = 0 }))
  colon_missing h a =
      cond_false (same (token (lexemes_from b at)) (mark colon)) (kind_named a (rest (lexemes_from b at))) (fault_at colon_due 0 (lexemes_from b at)) (ap (λ (u : Token). same u (mark colon)) (front-token b at s start) ∙ h)
      ∙ ap (λ (i : ℕ). bad (record { why = colon_due; at = i; of = 0 })) (front-place b at s start)

  module _ (e s₂ : ℕ) (stands : same (token_at b s) (58 ∷ []) ≡ true) (end : e ≡ s + token_size (drop s b)) (start₂ : s₂ ≡ e + blanks (drop e b)) where
    first : Front b s (lexemes_from b at)
    first = front b at s inside start (mark_some (token_at b s) 58 stands)

    e-inside : e ≤ length b
    e-inside = omega (arith, first.inside)

    behind-colon : (a : TermRead) → read_root_kind names a (lexemes_from b at) ≡ kind_named a (lexemes_from b e)
    behind-colon a =
        cond_true (same (token (lexemes_from b at)) (mark colon)) (kind_named a (rest (lexemes_from b at))) (fault_at colon_due 0 (lexemes_from b at)) (ap (λ (u : Token). same u (mark colon)) first.token ∙ stands)
        ∙ ap (kind_named a) (first.behind ∙ ap (lexemes_from b) (sym end))

    pub kind_missing : is_identifier (token_at b s₂) ≡ false → ReadsKind b at g k (Err (record { why = PlaceDue; at = s₂; of = 0 }))
    kind_missing h a =
        behind-colon a
        ∙ cond_false (is_identifier (token (lexemes_from b e))) _ _ (ap is_identifier (front-token b e s₂ start₂) ∙ h)
        ∙ ap (λ (i : ℕ). bad (record { why = place_due; at = i; of = 0 })) (front-place b e s₂ start₂)

    module _ (f : ℕ) (named : is_identifier (token_at b s₂) ≡ true) (few : k ≤ length g) (found : f ≡ index_in (token_at b s₂) names) where
      index_is : index_in (token (lexemes_from b e)) names ≡ f
      index_is = ap (λ (u : Token). index_in u names) (front-token b e s₂ start₂) ∙ sym found

      behind-name : (a : TermRead) → read_root_kind names a (lexemes_from b at) ≡ cond (ltb f k) (parsed (phrase_read f a) (rest (lexemes_from b e))) (fault_at not_declared 0 (lexemes_from b e))
      behind-name a =
          behind-colon a
          ∙ cond_true (is_identifier (token (lexemes_from b e))) _ _ (ap is_identifier (front-token b e s₂ start₂) ∙ named)
          ∙ ap₂ (λ (i j : ℕ). cond (ltb i j) (parsed (phrase_read i a) (rest (lexemes_from b e))) (fault_at not_declared 0 (lexemes_from b e))) index_is (names-count b k g few)

      pub kind-unknown : k ≤ f → ReadsKind b at g k (Err (record { why = NotDeclared; at = s₂; of = 0 }))
      kind-unknown h a =
          behind-name a
          ∙ cond_false (ltb f k) _ _ (le-ltb f k h)
          ∙ ap (λ (i : ℕ). bad (record { why = not_declared; at = i; of = 0 })) (front-place b e s₂ start₂)

      pub kind-named : (e₂ : ℕ) → f < k → e₂ ≡ s₂ + token_size (drop s₂ b) → ReadsKind b at g k (Ok (f, e₂))
      kind-named e₂ h end₂ =
          let second = front b e s₂ e-inside start₂ (identifier_some (token_at b s₂) named) in (
            h,
            omega (arith, second.inside),
            λ a.
                behind-name a ∙ cond_true (ltb f k) _ _ (lt-ltb f k h) ∙ ap (parsed (phrase_read f a)) (second.behind ∙ ap (lexemes_from b) (sym end₂)),
          )

-- ---- a root of one byte

pub leaf_refused : (b g o : List ℕ) (at k byte seen : ℕ) (x : Fault) → ReadsKind b at g k (Err x) → ReadsLeaf b at g k byte seen o (Err x)
leaf_refused b g o at k byte seen x read W v a root named =
    subst (λ (r : Parsed PhraseRead). ReadsPhrase W b o v r (Err x)) (sym (read a)) refl

two_set : (o : List ℕ) (x y : ℕ) → 2 ≤ length o → take 2 (set (set o 0 x) 1 y) ≡ x ∷ y ∷ []
two_set [] x y h = absurd (omega arith)
two_set (a ∷ []) x y h = absurd (omega arith)
two_set (a ∷ c ∷ o) x y h = refl

pub leaf_read : (b g o : List ℕ) (at k byte seen : ℕ) (kind e : ℕ) → ReadsKind b at g k (Ok (kind, e)) → length o ≡ most_bytes → seen ≤ 1 →
    ReadsLeaf b at g k byte seen (set (set o 0 kind) 1 byte) (Ok (record { label = length b; kind = kind; size = 2; seen = seen; at = e }))
leaf_read b g o at k byte seen kind e told size few W v a root named =
    subst (λ (r : Parsed PhraseRead). ReadsPhrase W b (set (set o 0 kind) 1 byte) v r (Ok (record { label = length b; kind = kind; size = 2; seen = seen; at = e }))) (sym (told.2 a))
    (record {
      label = sym (token_none b (length b) (omega arith));
      kind = refl;
      bytes = two_set o kind byte (omega arith) ∙ ap (λ (l : List ℕ). kind ∷ l) (sym root);
      variables = named;
      behind = refl;
      inside = told.1;
      room = omega arith;
      few = omega arith;
    })
