-- Offsets: the lexemes of a text from an offset on.
--
--   few-lexemes                at most one more than the text has bytes
--   here_some, here_none       whether a token stands from an offset on
--   blanks-passed              behind blanks no blank stands
--   first_at b s                the lexeme at the offset s, and those behind it
--   start-same, start-token    from the first token on the lexemes are the same, and that token is the first of them
--   from-ended, from_lexed, from_closes     each is a token, but for the last one, which is empty
--   behind-asking              those behind the label and the ? of a question
--
use mathlib.Core.Path.{◌≡◌, refl, sym, ap, subst, ◌∙◌}
use mathlib.Core.Bool.{Bool, true, false, not, cond}
use mathlib.Core.List.{List, [], ◌∷◌}
use Prim.Native.Nat.{ℕ, zero, suc, ◌+◌, ◌-◌, ◌<◌, ◌≤◌}
use native.Mathlib.Omega.{arith}
use lib.Dec.{eqb}
use lib.ListN.{length, take, drop, length-drop}
use lib.Seq.{drop-drop}
use Rattle.terms.proofs.Bools.{and_parts}
use Rattle.wire.proofs.Cond.{cond_false, choice}
use Rattle.texts.specs.Lexemes.{Token, Lexeme, is_blank, comment, asking, blanks_in, blanks, token_size, lexemes_behind, lexemes_in, lexemes, lexemes_from, token_at}
use Rattle.texts.specs.Names.{same, mark, is_identifier}
use Rattle.texts.specs.Faults.{token, rest}
use Rattle.texts.specs.Laws.{tokens_of, Closes}
use Rattle.texts.proofs.Scanning.{lexemes-next, lexemes-end, lexemes_after, lexemes-first, token_begins, same-exact}
use Rattle.texts.proofs.Lookups.{identifier_some}
use Rattle.texts.proofs.Fitting.{Lexed}
use Rattle.texts.proofs.Passing.{Ended, ended_lexed, ended_closes, text-ended}
use Rattle.clauses.specs.Reading.{Front}
use Rattle.clauses.proofs.Fronts.{front}
use Rattle.paragraphs.specs.Paragraphs.{BehindAsking}

few_in : (n at : ℕ) (l : List ℕ) → length (lexemes_in n at l) ≤ n
few_in zero at l = omega arith
few_in (suc n) at l = go (few_in n) (drop (blanks l) l)
  where
    go : ((at : ℕ) (l : List ℕ) → length (lexemes_in n at l) ≤ n) → (r : List ℕ) →
        length (lexemes_behind (lexemes_in n) (at + blanks l) r) ≤ suc n
    go ih [] = omega arith
    go ih (b ∷ r) =
        let k = ih (at + blanks l + token_size (b ∷ r)) (drop (token_size (b ∷ r)) (b ∷ r)) in omega arith

pub few-lexemes : (b : List ℕ) (at : ℕ) → length (lexemes_from b at) ≤ suc (length b)
few-lexemes b at = let k = few_in (suc (length b - at)) at (drop at b) in omega arith

-- ---- the first token from an offset on

module _ (b : List ℕ) (at : ℕ) {s : ℕ} (is : s ≡ at + blanks (drop at b)) where
  pub here_some : s < length b → 0 < length (token (lexemes_from b at))
  here_some h =
      subst (λ (l : List Lexeme). 0 < length (token l)) (sym (lexemes-next b at (let e = is in omega arith)))
      (subst (λ (u : Token). 0 < length u) (ap (token_at b) is)
      (subst (λ (u : Token). 0 < length u) (sym (token_begins b s h)) (omega arith)))

  pub here_none : length b ≤ s → length (token (lexemes_from b at)) ≡ 0
  here_none h = ap (λ (l : List Lexeme). length (token l)) (lexemes-end b at (let e = is in omega arith))

blanks-passed : (c : Bool) (l : List ℕ) → blanks (drop (blanks_in c l) l) ≡ 0
blanks-passed c [] = none (blanks_in c [])
  where
    none : (n : ℕ) → blanks (drop n []) ≡ 0
    none zero = refl
    none (suc n) = refl
blanks-passed true (x ∷ l) = blanks-passed (not (eqb x 10)) l
blanks-passed false (x ∷ l) =
    let without = blanks-passed false l in
    let within = blanks-passed true l in
    choice (λ n. blanks (drop n (x ∷ l)) ≡ 0) (is_blank x) (suc (blanks_in false l)) (cond (eqb x comment) (suc (blanks_in true l)) 0) (λ e. without) (λ e. choice (λ n. blanks (drop n (x ∷ l)) ≡ 0) (eqb x comment) (suc (blanks_in true l)) 0 (λ f. within) (λ f. cond_false _ _ _ e ∙ cond_false _ _ _ f))

abbrev first_at : List ℕ → ℕ → List Lexeme
first_at b s = record { at = s; token = token_at b s } ∷ lexemes_after b s

module _ (b : List ℕ) (at : ℕ) {s : ℕ} (is : s ≡ at + blanks (drop at b)) where
  start-again : s ≡ s + blanks (drop s b)
  start-again =
      let none : blanks (drop s b) ≡ 0 =
      ap (λ (i : ℕ). blanks (drop i b)) is ∙ ap blanks (sym (drop-drop (blanks (drop at b)) at b)) ∙ blanks-passed false (drop at b) in
      omega arith

  starts : lexemes_from b at ≡ first_at b s
  starts = lexemes-first b at ∙ ap (first_at b) (sym is)

  pub start-same : lexemes_from b s ≡ lexemes_from b at
  start-same = lexemes-first b s ∙ ap (first_at b) (sym start-again) ∙ sym starts

  pub start-token : token_at b s ≡ token (lexemes_from b s)
  start-token = sym (ap token (start-same ∙ starts))

-- ---- all of them

tokens_in_lem : (n i j : ℕ) (l : List ℕ) → tokens_of (lexemes_in n i l) ≡ tokens_of (lexemes_in n j l)
tokens_in_lem zero i j l = refl
tokens_in_lem (suc n) i j l = go (tokens_in_lem n) (drop (blanks l) l)
  where
    go : ((i j : ℕ) (l : List ℕ) → tokens_of (lexemes_in n i l) ≡ tokens_of (lexemes_in n j l)) → (m : List ℕ) →
        tokens_of (lexemes_behind (lexemes_in n) (i + blanks l) m) ≡ tokens_of (lexemes_behind (lexemes_in n) (j + blanks l) m)
    go more [] = refl
    go more (b ∷ m) =
        let k : ℕ = token_size (b ∷ m) in
        ap (λ (us : List Token). take k (b ∷ m) ∷ us) (more (i + blanks l + k) (j + blanks l + k) (drop k (b ∷ m)))

from-ended : (b : List ℕ) (at : ℕ) → Ended (tokens_of (lexemes_from b at))
from-ended b at = subst Ended same (text-ended (drop at b))
  where
    same : tokens_of (lexemes (drop at b)) ≡ tokens_of (lexemes_from b at)
    same =
        tokens_in_lem (suc (length (drop at b))) 0 at (drop at b)
        ∙ ap (λ (n : ℕ). tokens_of (lexemes_in (suc n) at (drop at b))) (length-drop at b)

pub from_lexed : (b : List ℕ) (at : ℕ) → Lexed (lexemes_from b at)
from_lexed b at = ended_lexed (lexemes_from b at) (from-ended b at)

pub from_closes : (b : List ℕ) (at : ℕ) → Closes (lexemes_from b at)
from_closes b at = ended_closes (lexemes_from b at) (from-ended b at)

-- ---- the first tokens of a question

some_token : (u : Token) → (u ≡ [] → ⊥) → 0 < length u
some_token [] h = absurd (h refl)
some_token (c ∷ u) h = omega arith

passes : (b : List ℕ) (at s : ℕ) → at ≤ length b → s ≡ at + blanks (drop at b) → (token (lexemes_from b at) ≡ [] → ⊥) → Front b s (lexemes_from b at)
passes b at s inside is some = front b at s inside is (some_token (token_at b s) (λ e. some (sym (start-token b at is ∙ ap token (start-same b at is)) ∙ e)))

pub behind-asking : (b : List ℕ) (at s x i e : ℕ) → at ≤ length b → s ≡ at + blanks (drop at b) → x ≡ s + token_size (drop s b) →
    i ≡ x + blanks (drop x b) → e ≡ i + token_size (drop i b) → BehindAsking b at e
behind-asking b at s x i e inside is over then ends begins =
    let begun = and_parts (is_identifier (token (lexemes_from b at))) (same (token (rest (lexemes_from b at))) (mark asking)) begins in
    let one = passes b at s inside is (identifier_some (token (lexemes_from b at)) begun.0) in
    let behind : rest (lexemes_from b at) ≡ lexemes_from b x = one.behind ∙ ap (lexemes_from b) (sym over) in
    let next : token (lexemes_from b x) ≡ mark asking =
    ap token (sym behind) ∙ same-exact (token (rest (lexemes_from b at))) (mark asking) begun.1 in
    let two =
    passes b x i (let within = one.inside in omega arith) then (λ none. let z : ◌≡◌ {A = ℕ} 0 1 = cc in omega arith) in
    (let within = two.inside in omega arith, ap rest behind ∙ two.behind ∙ ap (lexemes_from b) (sym ends))
