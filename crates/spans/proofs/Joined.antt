-- Joined: matching, spans and writings of terms that stand one behind the other.
--
--   chained us ts      the terms us, then ts
--   onward o k         matching goes on behind what has been matched
--   match_first, match_chained, span-chained, chained-bytes, chained-sorted, chained-names
--                      how terms that are put in front are matched, found, written, sorted and named
--
use mathlib.Core.Path.{◌≡◌, refl, sym, ap, ◌∙◌}
use mathlib.Core.List.{List, [], ◌∷◌, ◌++◌, append_assoc}
use mathlib.Core.Option.{Option, some, none}
use Prim.Native.Nat.{ℕ, ◌+◌}
use native.Mathlib.Omega.{arith}
use lib.ListN.{length, length-append}
use Rattle.terms.specs.Signature.{Signature}
use Rattle.terms.specs.Term.{Term, Terms, nil, cons, Ground, Grounds, gnil, gcons, SortedAll, SortedGs, names, names_all, as_term, as_terms}
use Rattle.terms.specs.Filling.{Filling}
use Rattle.terms.specs.Matcher.{match_from, match_all}
use Rattle.wire.specs.Vocabulary.{Vocabulary}
use Rattle.wire.specs.TermBytes.{encode_at, encode_all}
use Rattle.wire.specs.Matching.{size, Span, span_from, span_all}
use Rattle.terms.specs.Lists.{or_else}
use Rattle.wire.proofs.GroundBytes.{joined}

abbrev pub chained : Terms → Terms → Terms
chained nil ts = ts
chained (cons u us) ts = cons u (chained us ts)

abbrev pub onward : Option Filling → (Filling → Option Filling) → Option Filling
onward none k = none
onward (some f) k = k f

onward-twice : (o : Option Filling) (k l : Filling → Option Filling) → onward (onward o k) l ≡ onward o (λ f. onward (k f) l)
onward-twice none k l = refl
onward-twice (some f) k l = refl

onward-elim : (o : Option Filling) (k : Filling → Option Filling) → (elim o as (λ c. Option Filling) [ none ↦ none | some f ↦ k f ]) ≡ onward o k
onward-elim none k = refl
onward-elim (some f) k = refl

pub match_first : (t : Term) (ts : Terms) (g : Ground) (gs : Grounds) (f : Filling) →
    match_all (cons t ts) (gcons g gs) f ≡ onward (match_from t g f) (match_all ts gs)
match_first t ts g gs f = onward-elim (match_from t g f) (match_all ts gs)

onward-same : (o : Option Filling) (k l : Filling → Option Filling) → ((f : Filling) → k f ≡ l f) → onward o k ≡ onward o l
onward-same none k l e = refl
onward-same (some f) k l e = e f

pub match_chained : (S : Signature) (us ts : Terms) (hs gs : Grounds) (ks : List ℕ) (f : Filling) → SortedAll S us ks → SortedGs S hs ks →
    match_all (chained us ts) (joined hs gs) f ≡ onward (match_all us hs f) (match_all ts gs)
match_chained S nil ts gnil gs ks f h k = refl
match_chained S nil ts (gcons g hs) gs [] f h k = absurd k
match_chained S nil ts (gcons g hs) gs (x ∷ ks) f h k = absurd h
match_chained S (cons t us) ts gnil gs [] f h k = absurd h
match_chained S (cons t us) ts gnil gs (x ∷ ks) f h k = absurd k
match_chained S (cons t us) ts (gcons g hs) gs [] f h k = absurd h
match_chained S (cons t us) ts (gcons g hs) gs (x ∷ ks) f h k =
    match_first t (chained us ts) g (joined hs gs) f
    ∙ onward-same (match_from t g f) _ _ (λ e. match_chained S us ts hs gs ks e h.1 k.1)
    ∙ sym (onward-twice (match_from t g f) (match_all us hs) (match_all ts gs))
    ∙ ap (λ o. onward o (match_all ts gs)) (sym (match_first t us g hs f))

pub else_else : (a b c : Option Span) → or_else (or_else a b) c ≡ or_else a (or_else b c)
else_else none b c = refl
else_else (some x) b c = refl

pub span-chained : (W : Vocabulary) (S : Signature) (us ts : Terms) (hs gs : Grounds) (ks : List ℕ) (n at : ℕ) → SortedAll S us ks → SortedGs S hs ks →
    span_all W (chained us ts) (joined hs gs) n at ≡
    or_else (span_all W us hs n at) (span_all W ts gs n (at + length (encode_all W (as_terms hs))))
span-chained W S nil ts gnil gs ks n at h k = ap (span_all W ts gs n) (let e : at ≡ at + 0 = omega arith in e)
span-chained W S nil ts (gcons g hs) gs [] n at h k = absurd k
span-chained W S nil ts (gcons g hs) gs (x ∷ ks) n at h k = absurd h
span-chained W S (cons t us) ts gnil gs [] n at h k = absurd h
span-chained W S (cons t us) ts gnil gs (x ∷ ks) n at h k = absurd k
span-chained W S (cons t us) ts (gcons g hs) gs [] n at h k = absurd h
span-chained W S (cons t us) ts (gcons g hs) gs (x ∷ ks) n at h k =
    ap (or_else (span_from W t g n at))
    (span-chained W S us ts hs gs ks n (at + size W g) h.1 k.1
    ∙ ap (λ c. or_else (span_all W us hs n (at + size W g)) (span_all W ts gs n c))
    (let e : at + size W g + length (encode_all W (as_terms hs)) ≡ at + length (encode_all W (as_terms (gcons g hs))) =
    omega (arith, length-append (encode_at W (as_term g)) (encode_all W (as_terms hs))) in e))
    ∙ sym (else_else (span_from W t g n at) (span_all W us hs n (at + size W g)) _)

pub chained-bytes : (W : Vocabulary) (us ts : Terms) → encode_all W (chained us ts) ≡ encode_all W us ++ encode_all W ts
chained-bytes W nil ts = refl
chained-bytes W (cons t us) ts =
    ap (λ l. encode_at W t ++ l) (chained-bytes W us ts) ∙ sym (append_assoc (encode_at W t) (encode_all W us) (encode_all W ts))

pub chained-sorted : (S : Signature) (us ts : Terms) (ks js : List ℕ) → SortedAll S us ks → SortedAll S ts js → SortedAll S (chained us ts) (ks ++ js)
chained-sorted S nil ts [] js h k = k
chained-sorted S nil ts (x ∷ ks) js h k = absurd h
chained-sorted S (cons t us) ts [] js h k = absurd h
chained-sorted S (cons t us) ts (x ∷ ks) js h k = (h.0, chained-sorted S us ts ks js h.1 k)

pub chained-names : (us ts : Terms) → names_all (chained us ts) ≡ names_all us ++ names_all ts
chained-names nil ts = refl
chained-names (cons t us) ts = ap (λ l. names t ++ l) (chained-names us ts) ∙ sym (append_assoc (names t) (names_all us) (names_all ts))
