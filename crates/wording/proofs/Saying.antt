-- Saying: a term is written byte by byte.
--
--   says_is                          what is said, in another form
--   behind_rest, behind_first        the slice from an offset to the end is what is left behind it; that behind the first byte
--   says-variable, says-word         a variable, and a word with what stands behind its name
--   behind_none, behind_some         behind a word's name: it has no places, and it has some
--   place-written, place_open        a place is written, and it is open
--
use mathlib.Core.Path.{◌≡◌, refl, sym, ap, ap₂, subst, ◌∙◌}
use mathlib.Core.List.{List, [], ◌∷◌, ◌++◌}
use Prim.Native.Nat.{ℕ, zero, suc, ◌-◌, ◌%◌, ◌<◌, ◌≤◌}
use native.Mathlib.Omega.{arith}
use lib.ListN.{length, get_or, take, drop, length-drop}
use lib.Seq.{take-length}
use borrow.Author.Tests.{lt-ltb, le-ltb, eq-eqb, ne_eqb}
use Rattle.wire.specs.Map.{map_got, read_map}
use Rattle.wire.proofs.Cond.{cond_true, cond_false}
use Rattle.maps.specs.Reading.{map_at}
use Rattle.texts.specs.Names.{opened, mark, opening, name_at}
use Rattle.texts.specs.Saying.{Tables, Said, say_places, say_behind, say_term}
use Rattle.pages.specs.declared.Page.{Page}
use Rattle.pages.specs.Pages.{Puts}
use Rattle.pages.proofs.Pages.{adds-nothing, adds_then}
use Rattle.wording.specs.Says.{Says, say_place}

pub says_is : {x y : Said} {before after : Page} {rest : List ℕ} → x ≡ y → Says x before after rest → Says y before after rest
says_is {before = before} {after = after} {rest = rest} e h = subst (λ s. Says s before after rest) e h

pub behind_rest : (at : ℕ) (l : List ℕ) → take (length l - at) (drop at l) ≡ drop at l
behind_rest at l = ap (λ n. take n (drop at l)) (sym (length-drop at l)) ∙ take-length (drop at l)

-- What is left of some bytes behind the first.
abbrev pub behind_first : List ℕ → List ℕ
behind_first l = take (length l - 1) (drop 1 l)

-- Nothing is said.
still : (page : Page) (l : List ℕ) → Says (record { text = []; rest = l }) page page l
still page l = record { text = adds-nothing page.bytes page.end; rest = refl }

module _ (T : Tables) (left : ℕ) (l : List ℕ) (some : left ≡ 0 → ⊥) (more : 1 ≤ length l) where
  byte : say_term T left l ≡ say_term T (suc (left - 1)) (get_or l 0 0 ∷ behind_first l)
  byte =
      ap₂ (say_term T) (let s = some in let e : left ≡ suc (left - 1) = omega arith in e)
      (first l more ∙ ap (λ r. get_or l 0 0 ∷ r) (sym (behind_rest 1 l)))
    where
      first : (l : List ℕ) → 1 ≤ length l → l ≡ get_or l 0 0 ∷ drop 1 l
      first [] h = absurd (omega arith)
      first (b ∷ l) h = refl

  pub says-variable : 128 ≤ get_or l 0 0 → {v : ℕ} → v ≡ get_or l 0 0 - 128 → {before after : Page} → Puts before after (name_at T.variables v) →
      Says (say_term T left l) before after (behind_first l)
  says-variable h e p =
      says_is
      (ap (λ v. record { text = name_at T.variables v; rest = behind_first l }) e ∙ sym (byte ∙ cond_false _ _ _ (le-ltb (get_or l 0 0) 128 h)))
      (record { text = p; rest = refl })

  pub says-word : get_or l 0 0 < 128 → {b : ℕ} → b ≡ get_or l 0 0 → {before middle after : Page} {rest : List ℕ} → Puts before middle (name_at T.words b) →
      {n : ℕ} → n ≡ get_or T.places b 0 → Says (say_behind (say_term T (left - 1)) n (read_map (behind_first l))) middle after rest →
      Says (say_term T left l) before after rest
  says-word h e p f k =
      says_is
      (ap₂ (λ b n. said b (say_behind (say_term T (left - 1)) n (read_map (behind_first l)))) e (f ∙ ap (λ b. get_or T.places b 0) e)
      ∙ sym (byte ∙ cond_true _ _ _ (lt-ltb (get_or l 0 0) 128 h)))
      (record { text = adds_then p k.text; rest = k.rest })
    where
      said : ℕ → Said → Said
      said b s = record { text = name_at T.words b ++ s.text; rest = s.rest }

-- ---- behind a word's name

parsed : (l : List ℕ) → 1 ≤ length l → read_map l ≡ map_got (map_at l 0) (drop 1 l)
parsed [] h = absurd (omega arith)
parsed (m ∷ l) h = refl

module _ (sayer : List ℕ → Said) (n : ℕ) (l : List ℕ) (more : 1 ≤ length l) where
  pub behind_none : (page : Page) → n ≡ 0 → Says (say_behind sayer n (read_map l)) page page (behind_first l)
  behind_none page h = says_is (ap (λ r. record { text = []; rest = r }) (behind_rest 1 l) ∙ sym (ap₂ (say_behind sayer) h (parsed l more))) (still page (behind_first l))

  pub behind_some : (n ≡ 0 → ⊥) → {m : ℕ} → m ≡ map_at l 0 → say_behind sayer n (read_map l) ≡ say_places sayer n (mark opening) m (behind_first l)
  behind_some h {m} e =
      ap (say_behind sayer n) (parsed l more ∙ ap (λ x. map_got x (drop 1 l)) (sym e)) ∙ go n h
      ∙ ap (λ r. say_places sayer n (mark opening) m r) (sym (behind_rest 1 l))
    where
      go : (k : ℕ) → (k ≡ 0 → ⊥) → say_behind sayer k (map_got m (drop 1 l)) ≡ say_places sayer k (mark opening) m (drop 1 l)
      go zero h = absurd (h refl)
      go (suc k) h = refl

-- ---- one place

module _ (sayer : List ℕ → Said) (m : ℕ) (l : List ℕ) {before : Page} where
  pub place-written : m % 2 ≡ 1 → {after : Page} {rest : List ℕ} → Says (sayer l) before after rest → Says (say_place sayer m l) before after rest
  place-written h k = says_is (sym (cond_true _ _ _ (eq-eqb (m % 2) 1 h))) k

  pub place_open : (m % 2 ≡ 1 → ⊥) → {after : Page} → Puts before after opened → Says (say_place sayer m l) before after l
  place_open h k = says_is (sym (cond_false _ _ _ (ne_eqb (m % 2) 1 h))) (record { text = k; rest = refl })
