-- Spelling: the tokens of a text are those that it spells.
--
--   blanks-front, blanks-all, token-size     how the blanks at the front, blanks alone, and a token are counted
--   one_token, no-token     the lexemes of a text that begins with a token, and of one that has none
--   spells-tokens           a text has the tokens that it spells
--   Front, Inside, fronts   every text is one of the two, outside a comment and inside one
--   Begun, begun            what is no blank begins a token
--   ends-run, ends-single   a token ends before what is no name; a mark ends anyway
--   some_token              a token is not empty
--   tokens-spell            a text spells the tokens that it has
--   spelling_is_exact       the law
--
use mathlib.Core.Path.{◌≡◌, refl, sym, ap, ap₂, ◌∙◌}
use mathlib.Core.Bool.{Bool, true, false, ◌||◌, cond, true≢false}
use mathlib.Core.List.{List, [], ◌∷◌, ◌++◌, append-nil, append_assoc}
use Prim.Native.Nat.{ℕ, zero, suc, ◌+◌, ◌<◌}
use native.Mathlib.Omega.{arith}
use lib.Dec.{eqb}
use lib.ListN.{length, take, drop, length-append}
use lib.Seq.{take-append_seam, drop-append_seam, drop-length}
use borrow.Author.Tests.{eqb-true}
use Rattle.terms.specs.Lists.{All}
use Rattle.terms.proofs.Bools.{or_neither}
use Rattle.wire.proofs.Cond.{cond_true, cond_false}
use Rattle.texts.specs.Lexemes.{Token, is_blank, is_name_byte, comment, is_run, blanks_in, blanks, run_size, token_size, lexemes_behind, lexemes_in}
use Rattle.texts.specs.Spelling.{Blank, none, space, remark, Trailing, whole, unended, IsToken, run, single, Ends, Spells, end, next}
use Rattle.texts.specs.Laws.{SpellingIsExact, tokens_of}
use Rattle.texts.proofs.Plain.{apart}

-- ---- counting

remark-front : (c x : List ℕ) → All (λ b. eqb b 10 ≡ false) c → blanks_in true (c ++ (10 ∷ x)) ≡ length c + suc (blanks x)
remark-front [] x h = omega arith
remark-front (b ∷ c) x h = rw h.0 (let ih = remark-front c x h.1 in omega arith)

remark-all : (c : List ℕ) → All (λ b. eqb b 10 ≡ false) c → blanks_in true c ≡ length c
remark-all [] h = refl
remark-all (b ∷ c) h = rw h.0 (ap suc (remark-all c h.1))

blanks-front : {w : List ℕ} (r : List ℕ) → Blank w → blanks (w ++ r) ≡ length w + blanks r
blanks-front r none = omega arith
blanks-front r (space b w e h) = cond_true (is_blank b) _ _ e ∙ (let ih = blanks-front r h in omega arith)
blanks-front r (remark c w v all e h) =
    let split : v ++ r ≡ c ++ (10 ∷ (w ++ r)) = ap (λ (x : List ℕ). x ++ r) e ∙ append_assoc c (10 ∷ w) r in
    let counted : blanks_in true (v ++ r) ≡ length c + suc (blanks (w ++ r)) = ap (blanks_in true) split ∙ remark-front c (w ++ r) all in
    let size : length v ≡ length c + suc (length w) = ap length e ∙ length-append c (10 ∷ w) in
    let ih = blanks-front r h in
    omega arith

blanks-all : (b : List ℕ) → Trailing b → blanks b ≡ length b
blanks-all b (whole h) =
    let same : blanks (b ++ []) ≡ blanks b = ap blanks (append-nil b) in
    omega (arith, blanks-front [] h)
blanks-all b (unended w c h all e) =
    let size : length b ≡ length w + suc (length c) = ap length e ∙ length-append w (comment ∷ c) in
    let counted : blanks b ≡ length w + suc (blanks_in true c) = ap blanks e ∙ blanks-front (comment ∷ c) h in
    omega (arith, remark-all c all)

run-blank : (b : ℕ) → is_run b ≡ true → is_blank b ≡ false
run-blank b e =
    or_neither (eqb b 32 || eqb b 10 || eqb b 9) (eqb b 13)
    (or_neither (eqb b 32 || eqb b 10) (eqb b 9)
    (or_neither (eqb b 32) (eqb b 10) (apart is_run b 32 e refl) (apart is_run b 10 e refl))
    (apart is_run b 9 e refl))
    (apart is_run b 13 e refl)

no-blank : (b : ℕ) (l : List ℕ) → is_blank b ≡ false → eqb b comment ≡ false → blanks (b ∷ l) ≡ 0
no-blank b l e h = cond_false (is_blank b) _ _ e ∙ cond_false (eqb b comment) _ _ h

token-front : {u : Token} (r : List ℕ) → IsToken u → blanks (u ++ r) ≡ 0
token-front r (run b u e all) = no-blank b (u ++ r) (run-blank b e) (apart is_run b comment e refl)
token-front r (single b e h k) = no-blank b r h k

run-size : (u r : List ℕ) → All (λ c. is_name_byte c ≡ true) u → run_size r ≡ 0 → run_size (u ++ r) ≡ length u
run-size [] r all e = e
run-size (c ∷ u) r all e = cond_true (is_name_byte c) _ _ all.0 ∙ ap suc (run-size u r all.1 e)

run_ends : (b : ℕ) (u : Token) (r : List ℕ) → is_run b ≡ true → Ends (b ∷ u) r → run_size r ≡ 0
run_ends b u [] e h = refl
run_ends b u (c ∷ r) e h = cond_false (is_name_byte c) _ _ (h e)

token-size : {u : Token} (r : List ℕ) → IsToken u → Ends u r → token_size (u ++ r) ≡ length u
token-size r (run b u e all) h = ap suc (cond_true (is_run b) _ _ e ∙ run-size u r all (run_ends b u r e h))
token-size r (single b e h k) g = ap suc (cond_false (is_run b) _ _ e)

-- ---- the lexemes

sized-token : (n at b : ℕ) (u : Token) (r : List ℕ) → token_size (b ∷ (u ++ r)) ≡ length (b ∷ u) →
    tokens_of (lexemes_behind (lexemes_in n) at (b ∷ (u ++ r))) ≡ (b ∷ u) ∷ tokens_of (lexemes_in n (at + length (b ∷ u)) r)
sized-token n at b u r e =
    ap (λ (k : ℕ). take k (b ∷ (u ++ r)) ∷ tokens_of (lexemes_in n (at + k) (drop k (b ∷ (u ++ r))))) e
    ∙ ap₂ (λ (x y : List ℕ). x ∷ tokens_of (lexemes_in n (at + length (b ∷ u)) y)) (take-append_seam (b ∷ u) r) (drop-append_seam (b ∷ u) r)

first-token : {u : Token} (n at : ℕ) (r : List ℕ) → IsToken u → Ends u r →
    tokens_of (lexemes_behind (lexemes_in n) at (u ++ r)) ≡ u ∷ tokens_of (lexemes_in n (at + length u) r)
first-token n at r (run b u e all) h = sized-token n at b u r (token-size r (run b u e all) h)
first-token n at r (single b e h k) g = sized-token n at b [] r (token-size r (single b e h k) g)

one_token : (n at : ℕ) (w : List ℕ) (u : Token) (r : List ℕ) → Blank w → IsToken u → Ends u r →
    tokens_of (lexemes_in (suc n) at (w ++ (u ++ r))) ≡ u ∷ tokens_of (lexemes_in n (at + length w + length u) r)
one_token n at w u r blank token ends =
    let size : blanks (w ++ (u ++ r)) ≡ length w = omega (arith, blanks-front (u ++ r) blank, token-front r token) in
    rw (size, drop-append_seam w (u ++ r)) (first-token n (at + length w) r token ends)

no-token : (n at : ℕ) (b : List ℕ) → Trailing b → tokens_of (lexemes_in (suc n) at b) ≡ [] ∷ []
no-token n at b h = rw (blanks-all b h, drop-length b)

shorter : {u : Token} (b w r : List ℕ) → b ≡ w ++ (u ++ r) → IsToken u → length r < length b
shorter b w r e (run c u f all) = omega (arith, ap length e, length-append w ((c ∷ u) ++ r), length-append (c ∷ u) r)
shorter b w r e (single c f h k) = omega (arith, ap length e, length-append w (c ∷ r))

spells-tokens : {b : List ℕ} {us : List Token} (n at : ℕ) → length b < n → Spells b us → tokens_of (lexemes_in n at b) ≡ us ++ ([] ∷ [])
spells-tokens zero at h s = absurd (omega arith)
spells-tokens (suc n) at h (end b t) = no-token n at b t
spells-tokens (suc n) at h (next b w u r us e blank token ends s) =
    ap (λ l. tokens_of (lexemes_in (suc n) at l)) e
    ∙ (one_token n at w u r blank token ends
    ∙ ap {B = List Token} (λ l. u ∷ l) (spells-tokens n (at + length w + length u) (omega (arith, shorter b w r e token)) s))

-- ---- every text

-- A text is blanks alone, or blanks and then a byte that is none.
data Front (l : List ℕ) : Type 0 where
  bare : Trailing l → Front l
  byte : (w : List ℕ) (c : ℕ) (r : List ℕ) → l ≡ w ++ (c ∷ r) → Blank w → is_blank c ≡ false → eqb c comment ≡ false → Front l

-- The same inside a comment.
data Inside (l : List ℕ) : Type 0 where
  ever : All (λ b. eqb b 10 ≡ false) l → Inside l
  ended : (c x : List ℕ) → l ≡ c ++ (10 ∷ x) → All (λ b. eqb b 10 ≡ false) c → Front x → Inside l

front-space : (b : ℕ) (l : List ℕ) → is_blank b ≡ true → Front l → Front (b ∷ l)
front-space b l e (bare (whole h)) = bare (whole (space b l e h))
front-space b l e (bare (unended w c h all q)) = bare (unended (b ∷ w) c (space b w e h) all (ap {B = List ℕ} (λ x. b ∷ x) q))
front-space b l e (byte w c r q h i k) = byte (b ∷ w) c r (ap {B = List ℕ} (λ x. b ∷ x) q) (space b w e h) i k

behind-remark : (c x w y l : List ℕ) → l ≡ c ++ (10 ∷ x) → x ≡ w ++ y → comment ∷ l ≡ (comment ∷ (c ++ (10 ∷ w))) ++ y
behind-remark c x w y l e q =
    ap {B = List ℕ} (λ l. comment ∷ l) (e ∙ (ap (λ (x : List ℕ). c ++ (10 ∷ x)) q ∙ sym (append_assoc c (10 ∷ w) y)))

front-remark : (l : List ℕ) → Inside l → Front (comment ∷ l)
front-remark l (ever all) = bare (unended [] l none all refl)
front-remark l (ended c x e all (bare (whole h))) = bare (whole (remark c x l all e h))
front-remark l (ended c x e all (bare (unended w d h all' q))) =
    bare (unended (comment ∷ (c ++ (10 ∷ w))) d (remark c w (c ++ (10 ∷ w)) all refl h) all' (behind-remark c x w (comment ∷ d) l e q))
front-remark l (ended c x e all (byte w d r q h i k)) =
    byte (comment ∷ (c ++ (10 ∷ w))) d r (behind-remark c x w (d ∷ r) l e q) (remark c w (c ++ (10 ∷ w)) all refl h) i k

front-byte : (b : ℕ) (l : List ℕ) → Front l → Inside l → Front (b ∷ l)
front-byte b l f i = go (is_blank b) refl
  where
    other : (t : Bool) → eqb b comment ≡ t → is_blank b ≡ false → Front (b ∷ l)
    other true e h = rw (eqb-true b comment e) (front-remark l i)
    other false e h = byte [] b l refl none h e

    go : (t : Bool) → is_blank b ≡ t → Front (b ∷ l)
    go true e = front-space b l e f
    go false e = other (eqb b comment) refl e

inside-byte : (b : ℕ) (l : List ℕ) → Front l → Inside l → Inside (b ∷ l)
inside-byte b l f i = go (eqb b 10) refl i
  where
    go : (t : Bool) → eqb b 10 ≡ t → Inside l → Inside (b ∷ l)
    go true e i = ended [] l (ap {B = List ℕ} (λ c. c ∷ l) (eqb-true b 10 e)) tt f
    go false e (ever all) = ever (e, all)
    go false e (ended c x q all g) = ended (b ∷ c) x (ap {B = List ℕ} (λ y. b ∷ y) q) (e, all) g

fronts : (l : List ℕ) → Front l × Inside l
fronts [] = (bare (whole none), ever tt)
fronts (b ∷ l) = let h = fronts l in (front-byte b l h.0 h.1, inside-byte b l h.0 h.1)

-- A token begins at the front of l.
record Begun (l : List ℕ) : Type 0 where
  token : Token
  rest : List ℕ
  same : l ≡ token ++ rest
  is_token : IsToken token
  ends : Ends token rest

record Run (l : List ℕ) : Type 0 where
  name : List ℕ
  rest : List ℕ
  same : l ≡ name ++ rest
  characters : All (λ c. is_name_byte c ≡ true) name
  stops : run_size rest ≡ 0

runs : (l : List ℕ) → Run l
runs [] = record { name = []; rest = []; same = refl; characters = tt; stops = refl }
runs (c ∷ l) = go (is_name_byte c) refl (runs l)
  where
    go : (t : Bool) → is_name_byte c ≡ t → Run l → Run (c ∷ l)
    go true e q = record {
      name = c ∷ q.name;
      rest = q.rest;
      same = ap {B = List ℕ} (λ x. c ∷ x) q.same;
      characters = (e, q.characters);
      stops = q.stops;
    }
    go false e q = record { name = []; rest = c ∷ l; same = refl; characters = tt; stops = cond_false (is_name_byte c) _ _ e }

pub ends-run : (b : ℕ) (u : Token) (r : List ℕ) → run_size r ≡ 0 → Ends (b ∷ u) r
ends-run b u [] h = tt
ends-run b u (c ∷ r) h = λ e. go (is_name_byte c) h
  where
    go : (t : Bool) → cond t (suc (run_size r)) 0 ≡ 0 → t ≡ false
    go true h = absurd (omega arith)
    go false h = refl

pub ends-single : (b : ℕ) (u : Token) (r : List ℕ) → is_run b ≡ false → Ends (b ∷ u) r
ends-single b u [] h = tt
ends-single b u (c ∷ r) h = λ e. absurd (true≢false (sym e ∙ h))

begun : (b : ℕ) (l : List ℕ) → is_blank b ≡ false → eqb b comment ≡ false → Begun (b ∷ l)
begun b l h k = go (is_run b) refl (runs l)
  where
    go : (t : Bool) → is_run b ≡ t → Run l → Begun (b ∷ l)
    go true e q = record {
      token = b ∷ q.name;
      rest = q.rest;
      same = ap {B = List ℕ} (λ x. b ∷ x) q.same;
      is_token = run b q.name e q.characters;
      ends = ends-run b q.name q.rest q.stops;
    }
    go false e q = record { token = b ∷ []; rest = l; same = refl; is_token = single b e h k; ends = ends-single b [] l e }

-- Tokens are not empty, so the last lexeme stands behind all of them.
pub some_token : {u : Token} → IsToken u → u ≡ [] → ⊥
some_token (run b u e all) q = let z : ◌≡◌ {A = ℕ} 0 1 = cc in omega arith
some_token (single b e h k) q = let z : ◌≡◌ {A = ℕ} 0 1 = cc in omega arith

only_end : (us : List Token) → [] ∷ [] ≡ us ++ ([] ∷ []) → us ≡ []
only_end [] e = refl
only_end (u ∷ []) e = let z : ◌≡◌ {A = ℕ} 0 1 = cc in absurd (omega arith)
only_end (u ∷ (v ∷ us)) e = let z : ◌≡◌ {A = ℕ} 0 1 = cc in absurd (omega arith)

-- A token in front of lexemes that are spelled.
token-spells : (b w : List ℕ) (u : Token) (r : List ℕ) (more us : List Token) → b ≡ w ++ (u ++ r) → Blank w → IsToken u → Ends u r →
    u ∷ more ≡ us ++ ([] ∷ []) → ((rs : List Token) → more ≡ rs ++ ([] ∷ []) → Spells r rs) → Spells b us
token-spells b w u r more [] e blank token ends q spells = absurd (some_token token cc)
token-spells b w u r more (v ∷ us) e blank token ends q spells =
    let same : v ≡ u = cc in
    let rest : more ≡ us ++ ([] ∷ []) = cc in
    rw same (next b w u r us e blank token ends (spells us rest))

tokens-spell : (n at : ℕ) (b : List ℕ) (us : List Token) → length b < n → tokens_of (lexemes_in n at b) ≡ us ++ ([] ∷ []) → Spells b us
tokens-spell zero at b us h e = absurd (omega arith)
tokens-spell (suc n) at b us h e = go (tokens-spell n) (fronts b).0
  where
    go : ((at : ℕ) (b : List ℕ) (us : List Token) → length b < n → tokens_of (lexemes_in n at b) ≡ us ++ ([] ∷ []) → Spells b us) →
        Front b → Spells b us
    go more (bare t) = rw (only_end us (sym (no-token n at b t) ∙ e)) (end b t)
    go more (byte w c l q blank i k) =
        let p = begun c l i k in
        let split : b ≡ w ++ (p.token ++ p.rest) = q ∙ ap (λ (x : List ℕ). w ++ x) p.same in
        let first = one_token n at w p.token p.rest blank p.is_token p.ends in
        token-spells b w p.token p.rest _ us split blank p.is_token p.ends
        (sym first ∙ (sym (ap (λ l. tokens_of (lexemes_in (suc n) at l)) split) ∙ e))
        (λ rs f. more (at + length w + length p.token) p.rest rs (omega (arith, shorter b w p.rest split p.is_token)) f)

pub spelling_is_exact : SpellingIsExact
spelling_is_exact b us =
    (λ e. tokens-spell (suc (length b)) 0 b us (omega arith) e, λ s. spells-tokens (suc (length b)) 0 (omega arith) s)
