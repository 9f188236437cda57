-- Plain: how names, variables and rows of tokens are written.
--
--   Plain u            no space follows the token u where it is written
--   apart              two bytes of which one passes a test and the other does not
--   plain-name, plain-variable     names and variables are such
--   spell-append       a row of tokens behind another
--
use mathlib.Core.Path.{◌≡◌, refl, sym, ap, ◌∙◌}
use mathlib.Core.Bool.{Bool, true, false, true≢false}
use mathlib.Core.List.{List, [], ◌∷◌, ◌++◌, append-nil, append_assoc}
use Prim.Native.Nat.{ℕ}
use lib.Dec.{eqb}
use borrow.Author.Tests.{eqb-true}
use Rattle.terms.proofs.Bools.{and_parts, false_of_not}
use Rattle.texts.specs.Lexemes.{Token, is_name_byte, asking}
use Rattle.texts.specs.Names.{comma, colon, IsIdentifier, IsVariable}
use Rattle.texts.specs.Phrases.{spelled, spell}

abbrev pub Plain : Token → Type 0
Plain u = spelled u ≡ u

plain_byte : (b : ℕ) (u : Token) → eqb b comma ≡ false → eqb b colon ≡ false → Plain (b ∷ u)
plain_byte b u e h = rw (e, h) (append-nil (b ∷ u))

-- A byte that passes a test which c does not pass is another.
pub apart : (test : ℕ → Bool) (b c : ℕ) → test b ≡ true → test c ≡ false → eqb b c ≡ false
apart test b c e h = false_of_not (eqb b c) (λ q. true≢false (sym e ∙ (ap test (eqb-true b c q) ∙ h)))

pub plain-name : (u : Token) → IsIdentifier u → Plain u
plain-name [] h = refl
plain-name (b ∷ u) h =
    let name = (and_parts (is_name_byte b) _ h.identifier).0 in
    plain_byte b u (apart is_name_byte b comma name refl) (apart is_name_byte b colon name refl)

pub plain-variable : (u : Token) → IsVariable u → Plain u
plain-variable [] h = refl
plain-variable (b ∷ u) h =
    let ask = (and_parts (eqb b asking) _ h.variable).0 in
    plain_byte b u (apart (λ c. eqb c asking) b comma ask refl) (apart (λ c. eqb c asking) b colon ask refl)

pub spell-append : (us ws : List Token) → spell (us ++ ws) ≡ spell us ++ spell ws
spell-append [] ws = refl
spell-append (u ∷ us) ws = rw (spell-append us ws) (sym (append_assoc (spelled u) (spell us) (spell ws)))
