-- Passing: what the readers of patterns and questions pass over: no `kind`, and not the end of the text.
--
--   Ended us                   the last of the tokens us is empty, and the others are tokens
--   ended-rest, ended_lexed    what stands behind some of them is so too; each lexeme is a token or empty
--   ended_closes               the last lexeme is empty
--   closes_some                lexemes that close are not none
--   spelled-tokens             what a text spells are tokens
--   text-ended, text-tokens    the lexemes of a text
--   Calm l                     no `kind` is among the lexemes l
--   Fit u                      the token u is neither `kind` nor empty
--   Passed l r                 r is what is left of l behind lexemes that are fit
--   passed_rises               offsets rise in it as in l
--   Goes l g, Takes l g        what was read as g passed so; it took one lexeme at least
--   fit_mark, fit_name, ..     a token that passes a test of the readers is fit
--   term_takes, phrase_takes   a term, a pattern, whatever the names and the vocabulary
--   question_takes             a question
--
use mathlib.Core.Path.{◌≡◌, refl, sym, ◌∙◌, ap, subst}
use mathlib.Core.Bool.{true, false, ◌&&◌, false≢true}
use mathlib.Core.List.{List, [], ◌∷◌, ◌++◌, append_assoc}
use mathlib.Core.Logic.{◌⊎◌, inl, inr}
use mathlib.Core.Option.{Option, some, none}
use Prim.Native.Nat.{ℕ, zero, suc, ◌+◌, ◌<◌, ◌≤◌}
use native.Mathlib.Omega.{arith}
use lib.Dec.{ltb, leb}
use lib.ListN.{length}
use Rattle.terms.specs.Lists.{All}
use Rattle.terms.specs.Term.{any, var, app, nil, Ground}
use Rattle.terms.proofs.Bools.{and_parts}
use Rattle.wire.specs.Vocabulary.{Vocabulary, word}
use Rattle.wire.specs.TermBytes.{most_levels}
use Rattle.wire.proofs.Cond.{choice}
use Rattle.texts.specs.Lexemes.{Token, Lexeme, asking, lexemes}
use Rattle.texts.specs.Names.{same, opened, kind_word, mark, opening, closing, comma, colon, most_name, is_identifier, is_variable, index_in}
use Rattle.texts.specs.Spelling.{IsToken, Spells, end, next}
use Rattle.texts.specs.Phrases.{Phrase}
use Rattle.texts.specs.Faults.{Parsed, parsed, bad, parse_then, place, places_wrong, places_over, too_deep, pattern_due, long_name, not_declared, place_due, colon_due, term_due, other_label}
use Rattle.texts.specs.PhraseReading.{Seen, TermRead, TermsRead, PhraseRead, word_bytes, word_why, variable_why, fault_at, put_first, parse_places, read_behind, parse_word, read_variable, read_node, parse_term, read_root_kind, read_root, read_phrase, labelled, phrase_read}
use Rattle.texts.specs.QuestionReading.{open_before, ground_of, begins_question, or_open, completed, read_situation, read_question}
use Rattle.texts.specs.Laws.{tokens_of, Closes, Ascending}
use Rattle.texts.proofs.Spelling.{spelling_is_exact}
use Rattle.texts.proofs.Closing.{closes_cons, text_closes}
use Rattle.texts.proofs.Rising.{rises_right}
use Rattle.texts.proofs.Lookups.{same-eq, identifier-no_kind, identifier_some}
use Rattle.texts.proofs.KindNames.{mark-no_kind}
use Rattle.texts.proofs.TermsRead.{Below}
use Rattle.texts.proofs.Fitting.{Lexed, first_fine}
use Rattle.texts.proofs.PhrasesRead.{start, root_from, phrase_from}
use Rattle.texts.proofs.Telling.{variable-no_kind}

-- ---- the lexemes of a text

abbrev pub Ended : List Token → Type 0
Ended [] = ⊥
Ended (u ∷ us) = ((u ≡ []) × (us ≡ [])) ⊎ (IsToken u × Ended us)

ended-tokens : (us : List Token) → All IsToken us → Ended (us ++ ([] ∷ []))
ended-tokens [] a = inl (refl, refl)
ended-tokens (u ∷ us) a = inr (a.0, ended-tokens us a.1)

nothing-behind : (us vs : List Token) → us ++ vs ≡ [] → vs ≡ []
nothing-behind [] vs e = e
nothing-behind (u ∷ us) vs e = let z : ◌≡◌ {A = ℕ} 0 1 = cc in absurd (omega arith)

pub ended-rest : (us vs : List Token) → Ended (us ++ vs) → (vs ≡ [] → ⊥) → Ended vs
ended-rest [] vs h n = h
ended-rest (u ∷ us) vs (inl h) n = absurd (n (nothing-behind us vs h.1))
ended-rest (u ∷ us) vs (inr h) n = ended-rest us vs h.1 n

pub ended_lexed : (l : List Lexeme) → Ended (tokens_of l) → Lexed l
ended_lexed [] h = absurd h
ended_lexed (x ∷ []) (inl h) = (inl h.0, tt)
ended_lexed (x ∷ y ∷ l) (inl h) = let z : ◌≡◌ {A = ℕ} 0 1 = cc in absurd (omega arith)
ended_lexed (x ∷ l) (inr h) = (inr h.0, ended_lexed l h.1)

pub ended_closes : (l : List Lexeme) → Ended (tokens_of l) → Closes l
ended_closes [] h = absurd h
ended_closes (x ∷ []) (inl h) = h.0
ended_closes (x ∷ y ∷ l) (inl h) = let z : ◌≡◌ {A = ℕ} 0 1 = cc in absurd (omega arith)
ended_closes (x ∷ l) (inr h) = closes_cons x l (ended_closes l h.1)

closes_front : (l : List Lexeme) → Closes l → (us : List Token) × (tokens_of l ≡ us ++ ([] ∷ []))
closes_front [] c = absurd c
closes_front (x ∷ []) c = ([], ap (λ (u : Token). u ∷ []) c)
closes_front (x ∷ y ∷ l) c =
    let h = closes_front (y ∷ l) c in (x.token ∷ h.0, ap (λ (us : List Token). x.token ∷ us) h.1)

pub closes_some : (l : List Lexeme) → Closes l → tokens_of l ≡ [] → ⊥
closes_some [] c e = c
closes_some (x ∷ l) c e = let z : ◌≡◌ {A = ℕ} 0 1 = cc in omega arith

pub spelled-tokens : {b : List ℕ} {us : List Token} → Spells b us → All IsToken us
spelled-tokens (end b t) = tt
spelled-tokens (next b w u r us e blank token ends s) = (token, spelled-tokens s)

pub text-ended : (b : List ℕ) → Ended (tokens_of (lexemes b))
text-ended b =
    let h = closes_front (lexemes b) (text_closes b) in
    subst Ended (sym h.1) (ended-tokens h.0 (spelled-tokens ((spelling_is_exact b h.0).0 h.1)))

pub text-tokens : (b : List ℕ) → Lexed (lexemes b)
text-tokens b = ended_lexed (lexemes b) (text-ended b)

-- ---- what is passed in reading

abbrev pub Calm : List Lexeme → Type 0
Calm l = All (λ (x : Lexeme). same x.token kind_word ≡ false) l

record Fit (u : Token) : Type 0 where
  no_kind : same u kind_word ≡ false
  some : u ≡ [] → ⊥

pub record Passed (l r : List Lexeme) : Type 0 where
  pub calm : Calm r → Calm l
  pub ended : Ended (tokens_of l) → Ended (tokens_of r)
  pub done : List Lexeme
  pub all : l ≡ done ++ r
  pub shorter : length r ≤ length l

pub passed_none : (l : List Lexeme) → Passed l l
passed_none l = record { calm = λ c. c; ended = λ c. c; done = []; all = refl; shorter = omega arith }

pub passed-more : (l m r : List Lexeme) → Passed l m → Passed m r → Passed l r
passed-more l m r p q = record {
  calm = λ c. p.calm (q.calm c);
  ended = λ c. q.ended (p.ended c);
  done = p.done ++ q.done;
  all = p.all ∙ ap (λ (z : List Lexeme). p.done ++ z) q.all ∙ sym (append_assoc p.done q.done r);
  shorter = let h = p.shorter in let k = q.shorter in omega arith;
}

pub passed_rises : {l r : List Lexeme} → Passed l r → Ascending l → Ascending r
passed_rises {r = r} p a = rises_right p.done r (subst Ascending p.all a)

passed-one : (x : Lexeme) (l : List Lexeme) → Fit x.token → Passed (x ∷ l) l
passed-one x l f = record { calm = λ c. (f.no_kind, c); ended = go; done = x ∷ []; all = refl; shorter = omega arith }
  where
    go : Ended (tokens_of (x ∷ l)) → Ended (tokens_of l)
    go (inl h) = absurd (f.some h.0)
    go (inr h) = h.1

abbrev pub Goes : {A : Type 0} → List Lexeme → Parsed A → Type 0
Goes l (parsed a r) = Passed l r
Goes l (bad x) = Unit {0}

goes-from : {A : Type 0} (l m : List Lexeme) (g : Parsed A) → Passed l m → Goes m g → Goes l g
goes-from l m (parsed a r) p h = passed-more l m r p h
goes-from l m (bad x) p h = tt

pub goes_then : {A B : Type 0} (l : List Lexeme) (g : Parsed A) (k : A → List Lexeme → Parsed B) → Goes l g →
    ((a : A) (r : List Lexeme) → Goes r (k a r)) → Goes l (parse_then g k)
goes_then l (parsed a r) k h more = goes-from l r (k a r) h (more a r)
goes_then l (bad x) k h more = tt

-- The same where one lexeme at least is taken.
abbrev pub Takes : {A : Type 0} → List Lexeme → Parsed A → Type 0
Takes l (parsed a r) = Passed l r × (length r < length l)
Takes l (bad x) = Unit {0}

takes_one : {A : Type 0} (x : Lexeme) (l : List Lexeme) (g : Parsed A) → Fit x.token → Goes l g → Takes (x ∷ l) g
takes_one x l (parsed a r) f h = (passed-more (x ∷ l) l r (passed-one x l f) h, let k = h.shorter in omega arith)
takes_one x l (bad y) f h = tt

pub takes_goes : {A : Type 0} (l : List Lexeme) (g : Parsed A) → Takes l g → Goes l g
takes_goes l (parsed a r) h = h.0
takes_goes l (bad x) h = tt

pub takes_then : {A B : Type 0} (l : List Lexeme) (g : Parsed A) (k : A → List Lexeme → Parsed B) → Takes l g →
    ((a : A) (r : List Lexeme) → Goes r (k a r)) → Takes l (parse_then g k)
takes_then {B = B} l (parsed a r) k h more = go (k a r) (more a r)
  where
    go : (z : Parsed B) → Goes r z → Takes l z
    go (parsed b r') q = (passed-more l r r' h.0 q, let n = q.shorter in let m = h.1 in omega arith)
    go (bad x) q = tt
takes_then l (bad x) k h more = tt

-- ---- tokens that are read

fit_same : (u : Token) (b : ℕ) (v : Token) → same (b ∷ v) kind_word ≡ false → same u (b ∷ v) ≡ true → Fit u
fit_same u b v h e =
    let q : u ≡ b ∷ v = same-eq u (b ∷ v) e in
    record { no_kind = ap (λ (w : Token). same w kind_word) q ∙ h; some = λ z. let k : ◌≡◌ {A = ℕ} 0 1 = cc in omega arith }

fit_mark : (u : Token) (c : ℕ) → same u (mark c) ≡ true → Fit u
fit_mark u c e = fit_same u c [] (mark-no_kind c) e

fit_name : (u : Token) → is_identifier u ≡ true → Fit u
fit_name u e = record { no_kind = identifier-no_kind u e; some = identifier_some u e }

fit_variable : (u : Token) → is_variable u ≡ true → Fit u
fit_variable u e =
    record { no_kind = variable-no_kind u e; some = λ z. false≢true (sym (ap is_variable z) ∙ e) }

-- ---- terms

module _ (below : Below) (good : (k : ℕ) (s : Seen) (l : List Lexeme) → Goes l (below k s l)) (f : ℕ) where
  places-go : (ks : List ℕ) (c : ℕ) (s : Seen) (l : List Lexeme) → Goes l (parse_places below f c ks s l)
  places-go [] c s [] = tt
  places-go [] c s (x ∷ l) =
      choice (Goes (x ∷ l)) (same x.token (mark closing)) (parsed (record { terms = nil; seen = s }) l) (fault_at places_over f (x ∷ l))
      (λ e. passed-one x l (fit_mark x.token closing e)) (λ e. tt)
  places-go (k ∷ ks) c s [] = tt
  places-go (k ∷ ks) c s (x ∷ l) =
      choice (Goes (x ∷ l)) (same x.token (mark c)) (parse_then (below k s l) behind) (fault_at places_wrong f (x ∷ l))
      (λ e. goes-from (x ∷ l) l (parse_then (below k s l) behind) (passed-one x l (fit_mark x.token c e))
      (goes_then l (below k s l) behind (good k s l) (behind-goes (places-go ks comma))))
      (λ e. tt)
    where
      behind : TermRead → List Lexeme → Parsed TermsRead
      behind b r = parse_then (parse_places below f comma ks b.seen r) (λ ts r'. parsed (put_first b.term ts) r')

      behind-goes : ((s : Seen) (l : List Lexeme) → Goes l (parse_places below f comma ks s l)) → (b : TermRead) (r : List Lexeme) → Goes r (behind b r)
      behind-goes ih b r =
          goes_then r (parse_places below f comma ks b.seen r) (λ ts r'. parsed (put_first b.term ts) r') (ih b.seen r)
          (λ ts r'. passed_none r')

  behind_go : (ks : List ℕ) (s : Seen) (l : List Lexeme) → Goes l (read_behind below f ks s l)
  behind_go [] s l = passed_none l
  behind_go (k ∷ ks) s l = places-go (k ∷ ks) opening s l

module _ (N : List Token) (W : Vocabulary) (left due : ℕ) (s : Seen) (below : Below)
    (good : (k : ℕ) (s : Seen) (l : List Lexeme) → Goes l (below k s l)) (x : Lexeme) (l : List Lexeme) where
  word_takes : (why : ℕ) → word_why N W left due s x.token ≡ why → Takes (x ∷ l) (parse_word below N W left due s (x ∷ l) why)
  word_takes (suc why) q = tt
  word_takes zero q =
      takes_one x l (parse_then (read_behind below f (word W f).kinds s' l) whole)
      (fit_name x.token (first_fine (is_identifier x.token) _ term_due (omega arith) q).0)
      (goes_then l (read_behind below f (word W f).kinds s' l) whole (behind_go below good f (word W f).kinds s' l) (λ ts r. passed_none r))
    where
      f : ℕ
      f = index_in x.token N

      s' : Seen
      s' = record { variables = s.variables; used = s.used + word_bytes }

      whole : TermsRead → List Lexeme → Parsed TermRead
      whole ts r = parsed (record { term = app f ts.terms; seen = ts.seen }) r

  variable_takes : (why : ℕ) → is_variable x.token ≡ true → Takes (x ∷ l) (read_variable due s (x ∷ l) why)
  variable_takes zero e = takes_one x l (read_variable due s (x ∷ l) zero) (fit_variable x.token e) (passed_none l)
  variable_takes (suc why) e = tt

  node_takes : Takes (x ∷ l) (read_node below N W left due s (x ∷ l))
  node_takes =
      choice (Takes (x ∷ l)) (same x.token opened) (parsed (record { term = any; seen = s }) l) _
      (λ e. takes_one {A = TermRead} x l (parsed (record { term = any; seen = s }) l) (fit_same x.token 95 [] refl e) (passed_none l))
      (λ e. choice (Takes (x ∷ l)) (is_variable x.token) (read_variable due s (x ∷ l) (variable_why left s x.token))
      (parse_word below N W left due s (x ∷ l) (word_why N W left due s x.token))
      (variable_takes (variable_why left s x.token)) (λ v. word_takes (word_why N W left due s x.token) refl))

term_takes : (N : List Token) (W : Vocabulary) (left due : ℕ) (s : Seen) (l : List Lexeme) → Takes l (parse_term N W left due s l)
term_takes N W zero due s [] = tt
term_takes N W zero due s (x ∷ l) = node_takes N W zero due s (λ k s' l'. fault_at too_deep k l') (λ k s l. tt) x l
term_takes N W (suc left) due s [] = tt
term_takes N W (suc left) due s (x ∷ l) =
    node_takes N W (suc left) due s (parse_term N W left) (λ k s l. takes_goes l (parse_term N W left k s l) (term_takes N W left k s l)) x l

-- ---- patterns

kind-goes : (K : List Token) (a : TermRead) (l : List Lexeme) → Goes l (read_root_kind K a l)
kind-goes K a [] = tt
kind-goes K a (y ∷ []) = choice (Goes (y ∷ [])) (same y.token (mark colon)) _ (fault_at colon_due 0 (y ∷ [])) (λ e. tt) (λ e. tt)
kind-goes K a (y ∷ z ∷ l) =
    choice (Goes (y ∷ z ∷ l)) (same y.token (mark colon)) _ (fault_at colon_due 0 (y ∷ z ∷ l))
    (λ e. choice (Goes (y ∷ z ∷ l)) (is_identifier z.token) _ (fault_at place_due 0 (z ∷ l))
    (λ i. choice (Goes (y ∷ z ∷ l)) (ltb (index_in z.token K) (length K)) (parsed (phrase_read (index_in z.token K) a) l) (fault_at not_declared 0 (z ∷ l))
    (λ k. passed-more (y ∷ z ∷ l) (z ∷ l) l (passed-one y (z ∷ l) (fit_mark y.token colon e)) (passed-one z l (fit_name z.token i)))
    (λ k. tt)) (λ i. tt)) (λ e. tt)

module _ (below : Below) (K N : List Token) (W : Vocabulary) (x : Lexeme) (l : List Lexeme)
    (takes : (due : ℕ) → Takes (x ∷ l) (below due start (x ∷ l))) where
  root-variable : (why : ℕ) → is_variable x.token ≡ true →
      Takes (x ∷ l) (parse_then (read_variable 0 start (x ∷ l) why) (read_root_kind K))
  root-variable (suc why) e = tt
  root-variable zero e = takes_one x l (read_root_kind K a l) (fit_variable x.token e) (kind-goes K a l)
    where
      a : TermRead
      a = record { term = var 0; seen = record { variables = x.token ∷ []; used = 1 + 1 } }

  root-word : (due : ℕ) → Takes (x ∷ l) (parse_then (below due start (x ∷ l)) (λ a r. parsed (phrase_read due a) r))
  root-word due = takes_then (x ∷ l) (below due start (x ∷ l)) (λ a r. parsed (phrase_read due a) r) (takes due) (λ a r. passed_none r)

  root_takes : Takes (x ∷ l) (root_from below K N W (x ∷ l))
  root_takes =
      choice (Takes (x ∷ l)) (same x.token opened) (read_root_kind K (record { term = any; seen = start }) l) _
      (λ e. takes_one x l (read_root_kind K (record { term = any; seen = start }) l) (fit_same x.token 95 [] refl e)
      (kind-goes K (record { term = any; seen = start }) l))
      (λ e. choice (Takes (x ∷ l)) (is_variable x.token) _ _ (root-variable (variable_why most_levels start x.token))
      (λ v. choice (Takes (x ∷ l)) (is_identifier x.token) _ (fault_at pattern_due 0 (x ∷ l))
      (λ i. root-word (word W (index_in x.token N)).result) (λ i. tt)))

root-of : (K N : List Token) (W : Vocabulary) (l : List Lexeme) → Takes l (read_root K N W l)
root-of K N W [] = tt
root-of K N W (x ∷ l) =
    root_takes (parse_term N W most_levels) K N W x l (λ due. term_takes N W most_levels due start (x ∷ l))

phrase-from : (root : List Lexeme → Parsed PhraseRead) → ((l : List Lexeme) → Takes l (root l)) → (l : List Lexeme) → Takes l (phrase_from root l)
phrase-from root good [] = good []
phrase-from root good (x ∷ []) =
    choice (Takes (x ∷ [])) (is_identifier x.token && false) _ (root (x ∷ []))
    (λ e. absurd (false≢true (and_parts (is_identifier x.token) false e).1)) (λ e. good (x ∷ []))
phrase-from root good (x ∷ y ∷ l) =
    choice (Takes (x ∷ y ∷ l)) (is_identifier x.token && same y.token (mark colon)) _ (root (x ∷ y ∷ l))
    (λ e. let p = and_parts (is_identifier x.token) (same y.token (mark colon)) e in
    choice (Takes (x ∷ y ∷ l)) (leb (length x.token) most_name) labels (fault_at long_name 0 (x ∷ y ∷ l))
    (λ n. takes_one x (y ∷ l) labels (fit_name x.token p.0)
    (goes-from (y ∷ l) l labels (passed-one y l (fit_mark y.token colon p.1))
    (goes_then l (root l) (λ p r. parsed (labelled x.token p) r) (takes_goes l (root l) (good l)) (λ p r. passed_none r))))
    (λ n. tt))
    (λ e. good (x ∷ y ∷ l))
  where
    labels : Parsed PhraseRead
    labels = parse_then (root l) (λ p r. parsed (labelled x.token p) r)

pub phrase_takes : (K N : List Token) (W : Vocabulary) (l : List Lexeme) → Takes l (read_phrase K N W l)
phrase_takes K N W l = phrase-from (read_root K N W) (root-of K N W) l

-- ---- questions

open_takes : {A : Type 0} (l : List Lexeme) (o : Option ℕ) (g : Parsed A) → Takes l g → Takes l (or_open o g)
open_takes l (some q) g h = tt
open_takes l none g h = h

completed_takes : (l : List Lexeme) (g : Parsed TermRead) → Takes l g → Takes l (completed l g)
completed_takes l (parsed a r) h = open_takes l (open_before (place r) l) (parsed (ground_of a.term) r) h
completed_takes l (bad x) h = open_takes l (open_before x.at l) (bad x) tt

pub question_takes : (N : List Token) (W : Vocabulary) (p : Phrase) (l : List Lexeme) → begins_question l ≡ true → Takes l (read_question N W p l)
question_takes N W p [] e = absurd (false≢true e)
question_takes N W p (x ∷ []) e = absurd (false≢true (and_parts (is_identifier x.token) false e).1)
question_takes N W p (x ∷ y ∷ l) e =
    let begun = and_parts (is_identifier x.token) (same y.token (mark asking)) e in
    let situation : Parsed Ground = read_situation N W p.kind l in
    choice (Takes (x ∷ y ∷ l)) (same x.token p.label) situation (fault_at other_label 0 (x ∷ y ∷ l))
    (λ h. takes_one x (y ∷ l) situation (fit_name x.token begun.0)
    (goes-from (y ∷ l) l situation (passed-one y l (fit_mark y.token asking begun.1))
    (takes_goes l situation (completed_takes l (parse_term N W most_levels p.kind start l) (term_takes N W most_levels p.kind start l)))))
    (λ h. tt)
