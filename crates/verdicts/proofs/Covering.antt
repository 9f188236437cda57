-- Covering: what variables cover is put on the page where a situation fits, and what differs where it does not.
--
--   cover_some                                    a variable of the pattern, and what it covers
--   Covering b from at e before to a s page next  what is left to put from the offsets a and s on
--   covering_turn, covering_end                   the loop
--   covers-fits                                   what is put is what is walked
--   fits-text                                     the answer
--
use mathlib.Core.Path.{◌≡◌, refl, sym, ap, ap₂, ◌∙◌}
use mathlib.Core.Bool.{Bool, true, false, cond}
use mathlib.Core.List.{List, [], ◌∷◌, ◌++◌}
use Prim.Native.Nat.{ℕ, zero, suc, ◌+◌, ◌-◌, ◌<◌, ◌≤◌, min}
use native.Mathlib.Omega.{arith}
use lib.Dec.{ltb}
use lib.ListN.{length, take, drop}
use Rattle.terms.proofs.Bools.{or_parts}
use Rattle.wire.specs.Row.{write_row}
use Rattle.wire.specs.Text.{ascii}
use Rattle.wire.proofs.Cond.{cond_true, cond_false}
use Rattle.texts.specs.Lexemes.{Token, token_size, token_at}
use Rattle.texts.specs.Names.{same, opened, is_variable, name_at}
use Rattle.texts.specs.QuestionReading.{is_open}
use Rattle.texts.specs.Comparing.{Cover, Walked, fits, unlike, walked_behind, walked_over, walk}
use Rattle.pages.specs.Pages.{Adds}
use Rattle.pages.proofs.Turns.{Left, left_turn, left_end}
use Rattle.verdicts.specs.Steps.{start_from, behind_token, passed, tokens_in, all_tokens, places_size, step_size, walked}
use Rattle.verdicts.specs.Parts.{cover_line, cover_text, covers_text, walked_text}
use Rattle.verdicts.proofs.Steps.{stands_none}
use Rattle.verdicts.proofs.Walking.{first, found, next-drop, next-take, next-all, next-fewer}

pub cover_some : (u : Token) (us : List Token) {r : Bool} → r ≡ is_variable u → r ≡ true → cover_line (record { variable = u; tokens = us }) ≡ cover_text u us
cover_some u us v h = sym (cond_true _ _ _ (sym v ∙ h))

-- ---- the loop

pub record Covering (b : List ℕ) (from at e : ℕ) (before : List ℕ) (to a s : ℕ) (page : List ℕ) (next : ℕ) : Type 0 where
  -- So many steps are enough.
  pub steps : ℕ
  pub enough : length (tokens_in b s e) ≤ steps
  pub left : Left before to page next (covers_text steps (all_tokens b a) (tokens_in b s e))
      (covers_text (length (tokens_in b at e)) (all_tokens b from) (tokens_in b at e))

covers_none : (n : ℕ) (us : List Token) → covers_text n us [] ≡ []
covers_none zero us = refl
covers_none (suc n) us = refl

covers-on : (n : ℕ) (us : List Token) (v : Token) (vs : List Token) → 0 < n →
    covers_text n us (v ∷ vs) ≡
    cover_text (name_at us 0) (v ∷ take (step_size (name_at us 0) vs) vs) ++ covers_text (n - 1) (drop 1 us) (drop (step_size (name_at us 0) vs) vs)
covers-on zero us v vs h = absurd (omega arith)
covers-on (suc n) us v vs h =
    ap (λ m. cover_text (name_at us 0) (v ∷ take (step_size (name_at us 0) vs) vs) ++ covers_text m (drop 1 us) (drop (step_size (name_at us 0) vs) vs))
    (let e : n ≡ suc n - 1 = omega arith in e)

module _ {b : List ℕ} {from at e : ℕ} {before : List ℕ} {to a s : ℕ} {page : List ℕ} {next : ℕ} (w : Covering b from at e before to a s page next)
    {here : ℕ} {r : Bool} (is : here ≡ start_from b s) (test : r ≡ ltb here (min e (length b))) where
  pub covering_end : r ≡ false → Adds before to page next (covers_text (length (tokens_in b at e)) (all_tokens b from) (tokens_in b at e))
  covering_end h =
      left_end w.left (ap (covers_text w.steps (all_tokens b a)) (stands_none b s e is test h) ∙ covers_none w.steps (all_tokens b a))

  pub covering_turn : r ≡ true → {due : ℕ} → due ≡ start_from b a →
      {s' a' : ℕ} → s' ≡ passed b s (suc (step_size (token_at b due) (tokens_in b (behind_token b s) e))) → a' ≡ due + token_size (drop due b) →
      {after : List ℕ} {next' : ℕ} → Adds page next after next' (cover_text (token_at b due) (tokens_in b s s')) →
      Covering b from at e before to a' s' after next'
  covering_turn more {due} owed {s'} {a'} reached on put =
      let vs = tokens_in b (behind_token b s) e in
      let u = token_at b due in
      let here-is = found b e a s is test more owed in
      let some = w.enough in
      record {
        steps = w.steps - 1;
        enough = omega (arith, next-fewer b e a s is test more owed reached on);
        left =
            left_turn w.left
            (ap (covers_text w.steps (all_tokens b a)) here-is
            ∙ covers-on w.steps (all_tokens b a) (token_at b here) vs (omega (arith, ap length here-is))
            ∙ ap (λ x. cover_text x (token_at b here ∷ take (step_size x vs) vs) ++ covers_text (w.steps - 1) (drop 1 (all_tokens b a)) (drop (step_size x vs) vs)) (first b e a s is test more owed)
            ∙ ap₂ (λ x y. cover_text u x ++ covers_text (w.steps - 1) (drop 1 (all_tokens b a)) y) (next-take b e a s is test more owed reached on) (next-drop b e a s is test more owed reached on)
            ∙ ap (λ x. cover_text u (tokens_in b s s') ++ covers_text (w.steps - 1) x (tokens_in b s' e)) (next-all b e a s is test more owed reached on))
            put;
      }

-- ---- what is put is what is walked

-- Behind an open place or a variable.
over-fits : (u : Token) (us : List Token) (m : ℕ) (w : Walked) (text : List ℕ) (cs : List Cover) →
    ((ds : List Cover) → w ≡ fits ds → text ≡ write_row cover_line ds) → walked_over u us (walked_behind m w) ≡ fits cs →
    cover_text u us ++ text ≡ write_row cover_line cs
over-fits u us m (unlike n v) text cs f h = let z : ◌≡◌ {A = ℕ} 0 1 = cc in absurd (omega arith)
over-fits u us m (fits ds) text cs f h = go (is_variable u) h
  where
    go : (t : Bool) → cond t (fits (record { variable = u; tokens = us } ∷ ds)) (fits ds) ≡ fits cs →
        cond t (cover_line (record { variable = u; tokens = us })) [] ++ text ≡ write_row cover_line cs
    go true k =
        ap (λ x. cover_line (record { variable = u; tokens = us }) ++ x) (f ds refl)
        ∙ ap (write_row cover_line) (let e : record { variable = u; tokens = us } ∷ ds ≡ cs = cc in e)
    go false k = f ds refl ∙ ap (write_row cover_line) (let e : ds ≡ cs = cc in e)

behind-fits : (m : ℕ) (w : Walked) (cs : List Cover) → walked_behind m w ≡ fits cs → w ≡ fits cs
behind-fits m (fits ds) cs h = h
behind-fits m (unlike n u) cs h = let z : ◌≡◌ {A = ℕ} 0 1 = cc in absurd (omega arith)

same-fits : (t : Bool) (m : ℕ) (w : Walked) (u : Token) (cs : List Cover) → cond t (walked_behind m w) (unlike 0 u) ≡ fits cs → w ≡ fits cs
same-fits true m w u cs h = behind-fits m w cs h
same-fits false m w u cs h = let z : ◌≡◌ {A = ℕ} 0 1 = cc in absurd (omega arith)

-- One step, where what is behind it is so.
module _ (n : ℕ) (us : List Token) (v : Token) (vs : List Token)
    (f : (k : ℕ) (ds : List Cover) → walk n (drop 1 us) (drop k vs) ≡ fits ds → covers_text n (drop 1 us) (drop k vs) ≡ write_row cover_line ds) where
  abbrev u : Token
  u = name_at us 0

  abbrev put : ℕ → List ℕ
  put k = cover_text u (v ∷ take k vs) ++ covers_text n (drop 1 us) (drop k vs)

  step_fits : (cs : List Cover) → walk (suc n) us (v ∷ vs) ≡ fits cs → (t : Bool) → is_open u ≡ t → put (step_size u vs) ≡ write_row cover_line cs
  step_fits cs h true e =
      let k = places_size vs in
      ap put (cond_true _ _ _ e)
      ∙ over-fits u (v ∷ take k vs) (suc k) (walk n (drop 1 us) (drop k vs)) (covers_text n (drop 1 us) (drop k vs)) cs (f k) (sym (cond_true _ _ _ e) ∙ h)
  step_fits cs h false e =
      ap put (cond_false _ _ _ e)
      ∙ ap (λ x. x ++ covers_text n (drop 1 us) vs) (cond_false _ _ _ (or_parts (same u opened) (is_variable u) e).1)
      ∙ f 0 cs (same-fits (same u v) 1 (walk n (drop 1 us) vs) u cs (sym (cond_false _ _ _ e) ∙ h))

pub covers-fits : (n : ℕ) (us vs : List Token) (cs : List Cover) → walk n us vs ≡ fits cs → covers_text n us vs ≡ write_row cover_line cs
covers-fits zero us vs cs h = ap (write_row cover_line) (let e : [] ≡ cs = cc in e)
covers-fits (suc n) us [] cs h = ap (write_row cover_line) (let e : [] ≡ cs = cc in e)
covers-fits (suc n) us (v ∷ vs) cs h =
    step_fits n us v vs (λ k ds. covers-fits n (drop 1 us) (drop k vs) ds) cs h (is_open (name_at us 0)) refl

-- ---- the answer

module _ (b : List ℕ) (from at e : ℕ) (l : Token) where
  pub fits-text : (cs : List Cover) × (walked b from at e ≡ fits cs) →
      ascii "# yes\n" ++ covers_text (length (tokens_in b at e)) (all_tokens b from) (tokens_in b at e) ≡ walked_text l (tokens_in b at e) (walked b from at e)
  fits-text (cs, h) =
      ap (λ x. ascii "# yes\n" ++ x) (covers-fits (length (tokens_in b at e)) (all_tokens b from) (tokens_in b at e) cs h)
      ∙ ap (walked_text l (tokens_in b at e)) (sym h)
