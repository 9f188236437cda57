-- Drawing: tokens on the page, as they are written or as spaces in their place.
--
--   drawn-append                  one text behind another
--   spaces_turn, spaces_end       the loop that puts spaces
--   spelled-some                  a token with the space that follows it
--   tokens_turn, tokens-end       the loop that puts tokens
--   no_text_lem                       what is put where a situation differs
--
use mathlib.Core.Path.{◌≡◌, refl, sym, ap, ◌∙◌}
use mathlib.Core.Bool.{Bool, true, false, ◌||◌, cond}
use mathlib.Core.List.{List, [], ◌∷◌, ◌++◌, append_assoc}
use Prim.Native.Nat.{ℕ, suc, ◌+◌, ◌-◌, ◌<◌, ◌≤◌, min}
use native.Mathlib.Omega.{arith}
use lib.Dec.{ltb}
use lib.ListN.{length, drop, replicate, replicate-append-replicate}
use Rattle.wire.specs.Text.{ascii}
use Rattle.texts.specs.Lexemes.{Token, token_size, token_at}
use Rattle.texts.specs.Names.{same, mark, comma, colon}
use Rattle.texts.specs.Phrases.{spelled, spell}
use Rattle.texts.specs.Complaints.{columns, follows}
use Rattle.texts.specs.Verdicts.{ask_text}
use Rattle.verdicts.specs.Steps.{start_from, behind_token, tokens_in}
use Rattle.verdicts.specs.Parts.{drawn, no_text}
use Rattle.verdicts.specs.declared.Ink.{Ink}
use Rattle.verdicts.specs.declared.Ink.TheVariants.{Letters, Spaces}
use Rattle.verdicts.proofs.Steps.{behind_is, stands-more, stands_none}

columns-append : (x y : List ℕ) → columns (x ++ y) ≡ columns x + columns y
columns-append [] y = let e : columns y ≡ 0 + columns y = omega arith in e
columns-append (b ∷ x) y = go (follows b) (columns-append x y)
  where
    go : (t : Bool) → columns (x ++ y) ≡ columns x + columns y →
        cond t (columns (x ++ y)) (suc (columns (x ++ y))) ≡ cond t (columns x) (suc (columns x)) + columns y
    go true h = h
    go false h = omega arith

pub drawn-append : (i : Ink) (x y : List ℕ) → drawn i (x ++ y) ≡ drawn i x ++ drawn i y
drawn-append Spaces x y = ap (λ n. replicate n 32) (columns-append x y) ∙ sym (replicate-append-replicate (columns x) (columns y) 32)
drawn-append Letters x y = refl

drawn-space : (i : Ink) → ascii " " ≡ drawn i (ascii " ")
drawn-space Spaces = refl
drawn-space Letters = refl

drawn_none : (i : Ink) → [] ≡ drawn i []
drawn_none Spaces = refl
drawn_none Letters = refl

-- ---- spaces

pub spaces_turn : (n i : ℕ) → i < n → replicate (n - i) 32 ≡ ascii " " ++ replicate (n - (i + 1)) 32
spaces_turn n i h = ap (λ k. replicate k 32) (let e : n - i ≡ suc (n - (i + 1)) = omega arith in e)

pub spaces_end : (n i : ℕ) → n ≤ i → replicate {A = ℕ} (n - i) 32 ≡ []
spaces_end n i h = ap (λ k. replicate {A = ℕ} k 32) (let e : n - i ≡ 0 = omega arith in e)

-- ---- one token

pub spelled-some : (i : Ink) (u : Token) {p : Bool} → p ≡ (same u (mark comma) || same u (mark colon)) → p ≡ true → drawn i u ++ ascii " " ≡ drawn i (spelled u)
spelled-some i u c e =
    ap (λ l. drawn i u ++ l) (drawn-space i) ∙ sym (drawn-append i u (ascii " "))
    ∙ ap (λ t. drawn i (u ++ cond t (ascii " ") [])) (sym e ∙ c)

-- ---- several tokens

module _ (h : Ink) (b : List ℕ) (e i : ℕ) {s : ℕ} {r : Bool} (is : s ≡ start_from b i) (test : r ≡ ltb s (min e (length b))) where
  pub tokens-end : r ≡ false → drawn h (spell (tokens_in b i e)) ≡ []
  tokens-end f = ap (λ us. drawn h (spell us)) (stands_none b i e is test f) ∙ sym (drawn_none h)

  pub tokens_turn : r ≡ true → {j : ℕ} → j ≡ s + token_size (drop s b) →
      drawn h (spell (tokens_in b i e)) ≡ drawn h (spelled (token_at b s)) ++ drawn h (spell (tokens_in b j e))
  tokens_turn f g =
      ap (λ us. drawn h (spell us)) (stands-more b i e is test f)
      ∙ drawn-append h (spelled (token_at b s)) (spell (tokens_in b (behind_token b i) e))
      ∙ ap (λ x. drawn h (spelled (token_at b s)) ++ drawn h (spell (tokens_in b x e))) (sym (behind_is b i is g))

-- ---- no

pub no_text_lem : (l : Token) (us : List Token) (u : Token) →
    ascii "# " ++ (drawn Spaces l ++ (ascii "   " ++ (drawn Spaces (spell us) ++ (ascii "^ no: " ++ (u ++ ascii " is due here\n"))))) ≡ no_text l us u
no_text_lem l us u =
    let rest = ascii "^ no: " ++ (u ++ ascii " is due here\n") in
    ap (λ x. ascii "# " ++ x)
    (sym
    (ap (λ x. x ++ rest)
    (drawn-append Spaces (ask_text l) (spell us) ∙ ap (λ x. x ++ drawn Spaces (spell us)) (drawn-append Spaces l (ascii " ? ")))
    ∙ append_assoc (drawn Spaces l ++ ascii "   ") (drawn Spaces (spell us)) rest
    ∙ append_assoc (drawn Spaces l) (ascii "   ") (drawn Spaces (spell us) ++ rest)))
