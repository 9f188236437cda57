-- LexiconFaults: where the reading of a vocabulary stops at a token, no good vocabulary begins with the tokens up to it.
--
--   Stuck x s                the reading stops in the state x, where s follows
--   Split K x l q            the lexemes l before the one at offset q, where the reading stops
--   end_on                   what is known of the step behind the last token
--   split                    a fault splits the lexemes
--   text_of us                lexemes with the tokens us
--   no-further               no good vocabulary begins with the tokens up to a fault
--
use mathlib.Core.Path.{◌≡◌, refl, sym, ◌∙◌, ap, subst}
use mathlib.Core.Bool.{Bool, true, false, cond}
use mathlib.Core.List.{List, [], ◌∷◌, ◌++◌}
use Prim.Native.Nat.{ℕ}
use native.Mathlib.Omega.{arith}
use lib.Dec.{eqb}
use lib.ListN.{length, drop}
use borrow.Author.Tests.{eqb-true}
use Rattle.texts.specs.Lexemes.{Token, Lexeme}
use Rattle.texts.specs.Lexicon.{kind_names, lexicon_tokens, GoodLexicon}
use Rattle.texts.specs.Faults.{Fault, Parsed, parsed, bad, kind_name_due, kind_due, word_due, place_due, place_end, no_words}
use Rattle.texts.specs.LexiconReading.{Phase, at_start, at_kind, behind_kind, at_word, behind_word, at_place, behind_place, behind_places, Declaring, rows_of, beginning, Stepped, on, over, fails, step_in, step, LexiconRead, stepped, read_rows}
use Rattle.texts.specs.Laws.{tokens_of, lexicon_read, LexiconFirst}
use Rattle.texts.proofs.LexiconsRead.{and_on, walk, rows-walk, rows-read}

abbrev pub Stuck : Declaring → Stepped → Type 0
Stuck x (on y) = ⊥
Stuck x over = length x.names ≡ 0
Stuck x (fails why) = Unit {0}

pub record Split (K : List Token) (x : Declaring) (l : List Lexeme) (q : ℕ) : Type 0 where
  pub before : List Lexeme
  pub here : Lexeme
  pub behind : List Lexeme
  pub all : l ≡ before ++ (here ∷ behind)
  pub place : here.at ≡ q
  pub state : Declaring
  pub walked : walk K x (tokens_of before) ≡ on state
  pub stuck : Stuck state (step K state here.token)

split_next : (K : List Token) (x z : Declaring) (y : Lexeme) (l : List Lexeme) (q : ℕ) → step K x y.token ≡ on z → Split K z l q →
    Split K x (y ∷ l) q
split_next K x z y l q e s = record {
  before = y ∷ s.before;
  here = s.here;
  behind = s.behind;
  all = ap (λ (m : List Lexeme). y ∷ m) s.all;
  place = s.place;
  state = s.state;
  walked = ap (λ (t : Stepped). and_on t (λ z. walk K z (tokens_of s.before))) e ∙ s.walked;
  stuck = s.stuck;
}

-- One token: the reading stops at it, or goes on.
split_here : (K : List Token) (x : Declaring) (y : Lexeme) (l : List Lexeme) (f : Fault) (s : Stepped) → step K x y.token ≡ s →
    ((z : Declaring) → step K x y.token ≡ on z → read_rows K z l ≡ bad f → Split K x (y ∷ l) f.at) →
    stepped (λ z. read_rows K z l) K x (y ∷ l) s ≡ bad f → Split K x (y ∷ l) f.at
split_here K x y l f (on z) e more h = more z e h
split_here K x y l f (fails why) e more h =
    let same : record { why = why; at = y.at; of = 0 } ≡ f = cc in
    record {
      before = [];
      here = y;
      behind = l;
      all = refl;
      place = ap (λ (g : Fault). g.at) same;
      state = x;
      walked = refl;
      stuck = subst (Stuck x) (sym e) tt;
    }
split_here K x y l f over e more h = go (eqb (length x.names) 0) refl h
  where
    go : (b : Bool) → eqb (length x.names) 0 ≡ b →
        cond {A = Parsed LexiconRead} b (bad (record { why = no_words; at = y.at; of = 0 }))
        (parsed (record { kind_names = K; word_names = x.names; rows = rows_of x }) (y ∷ l)) ≡ bad f →
        Split K x (y ∷ l) f.at
    go false t h = let z : ◌≡◌ {A = ℕ} 0 1 = cc in absurd (omega arith)
    go true t h =
        let same : record { why = no_words; at = y.at; of = 0 } ≡ f = cc in
        record {
          before = [];
          here = y;
          behind = l;
          all = refl;
          place = ap (λ (g : Fault). g.at) same;
          state = x;
          walked = refl;
          stuck = subst (Stuck x) (sym e) (eqb-true (length x.names) 0 t);
        }

over-on : {A : Type 0} (z : Declaring) → over ≡ on z → A
over-on z e = let z : ◌≡◌ {A = ℕ} 0 1 = cc in absurd (omega arith)

fails-on : {A : Type 0} (why : ℕ) (z : Declaring) → fails why ≡ on z → A
fails-on why z e = let z : ◌≡◌ {A = ℕ} 0 1 = cc in absurd (omega arith)

-- No reading goes on with the empty token.
pub end_on : (K : List Token) (x z : Declaring) (p : Phase) → step_in K x [] p ≡ on z → ⊥
end_on K x z at_start e = fails-on kind_due z e
end_on K x z at_kind e = fails-on kind_name_due z e
end_on K x z behind_kind e = over-on z e
end_on K x z at_word e = fails-on word_due z e
end_on K x z behind_word e = over-on z e
end_on K x z at_place e = fails-on place_due z e
end_on K x z behind_place e = fails-on place_end z e
end_on K x z behind_places e = over-on z e

-- The empty lexeme at the end stops every reading.
pub split : (K : List Token) (e : Lexeme) → e.token ≡ [] → (l : List Lexeme) (x : Declaring) (f : Fault) →
    read_rows K x (l ++ (e ∷ [])) ≡ bad f → Split K x (l ++ (e ∷ [])) f.at
split K e t [] x f h =
    split_here K x e [] f (step K x e.token) refl
    (λ z s m. absurd (end_on K x z x.phase (subst (λ u. step_in K x u x.phase ≡ on z) t s))) h
split K e t (y ∷ l) x f h =
    split_here K x y (l ++ (e ∷ [])) f (step K x y.token) refl
    (λ z s m. split_next K x z y (l ++ (e ∷ [])) f.at s (split K e t l z f m)) h

abbrev pub text_of : List Token → List Lexeme
text_of [] = []
text_of (u ∷ us) = record { at = 0; token = u } ∷ text_of us

pub tokens-text : (us : List Token) → tokens_of (text_of us) ≡ us
tokens-text [] = refl
tokens-text (u ∷ us) = ap (λ (t : List Token). u ∷ t) (tokens-text us)

-- A reading that stops is a fault, whatever stands behind.
pub stuck-bad : (K : List Token) (y : Declaring) (u : Token) (us : List Token) (l : List Lexeme) → Stuck y (step K y u) → tokens_of l ≡ u ∷ us →
    (f : Fault) × (read_rows K y l ≡ bad f)
stuck-bad K y u us [] s e = let z : ◌≡◌ {A = ℕ} 0 1 = cc in absurd (omega arith)
stuck-bad K y u us (c ∷ l) s e =
    let same : u ≡ c.token = cc in
    go (step K y c.token) (subst (λ v. Stuck y (step K y v)) same s)
  where
    go : (s : Stepped) → Stuck y s → (f : Fault) × (stepped (λ z. read_rows K z l) K y (c ∷ l) s ≡ bad f)
    go (on z) s = absurd s
    go over s = (record { why = no_words; at = c.at; of = 0 }, rw s)
    go (fails why) s = (record { why = why; at = c.at; of = 0 }, refl)

pub no-further : (K us vs : List Token) (y : Declaring) (u : Token) → walk K beginning us ≡ on y → Stuck y (step K y u) →
    (F : LexiconFirst GoodLexicon K (us ++ (u ∷ vs))) → kind_names F.lexicon ≡ K → ⊥
no-further K us vs y u w s F kinds =
    let l : List Lexeme = text_of (us ++ (u ∷ vs)) in
    let spelt : tokens_of l ≡ us ++ (u ∷ vs) = tokens-text (us ++ (u ∷ vs)) in
    let good =
    rows-read F.lexicon F.fine l F.rest (spelt ∙ F.tokens)
    (record { no_kind = F.no_kind; no_equals = F.no_equals; no_bar = F.no_bar; no_opening = F.no_opening }) in
    let along = rows-walk K us (u ∷ vs) beginning y l w spelt in
    let fault = stuck-bad K y u vs (drop (length us) l) s along.1 in
    let no : parsed (lexicon_read F.lexicon) (drop (length (lexicon_tokens F.lexicon)) l) ≡ bad fault.0 =
    sym good ∙ ap (λ (M : List Token). read_rows M beginning l) kinds ∙ along.0 ∙ fault.1 in
    let z : ◌≡◌ {A = ℕ} 0 1 = cc in omega arith
