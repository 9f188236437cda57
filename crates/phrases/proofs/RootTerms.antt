-- RootTerms: a pattern without label, by what stands at its root.
--
--   root_variable_refused, root_variable_read      a variable
--   word-kind                                      the kind of a word by its record
--   never_open                                     a term that begins with a name is not open
--   root_word_refused, root-word_read              a word
--   root_open, root-variable, root_none, root-word     the whole root
--
use mathlib.Core.Path.{◌≡◌, refl, sym, ap, ap₂, subst, ◌∙◌}
use mathlib.Core.Bool.{Bool, true, false, not, ◌&&◌, cond}
use mathlib.Core.List.{List, [], ◌∷◌, ◌++◌, map}
use Prim.Native.Nat.{ℕ, zero, suc, ◌+◌, ◌*◌, ◌<◌, ◌≤◌}
use native.Mathlib.Omega.{arith}
use lib.Dec.{ltb}
use lib.ListN.{length, get_or, take, drop, set, length-map, get_or-eq_default}
use borrow.Author.Tests.{ltb-true, ltb-false, not-true}
use Rattle.terms.specs.Lists.{range}
use Rattle.terms.specs.Term.{Term, any, var, app}
use Rattle.terms.proofs.Bools.{and_parts}
use Rattle.wire.specs.Map.{is_open}
use Rattle.wire.specs.Vocabulary.{Vocabulary, Word, word, no_word}
use Rattle.wire.specs.TermBytes.{encode_root, encode_at, name_count, most_bytes, most_levels}
use Rattle.wire.proofs.Cond.{choice, cond_true, cond_false}
use Rattle.texts.specs.Lexemes.{Token, Lexeme, blanks, token_size, lexemes_from, token_at}
use Rattle.texts.specs.Names.{same, opened, kind_word, begins_name, is_identifier, is_variable, index_in}
use Rattle.texts.specs.Faults.{Parsed, parsed, bad, parse_then, token, rest, pattern_due}
use Rattle.texts.specs.PhraseReading.{Seen, TermRead, TermsRead, PhraseRead, phrase_read, fault_at, word_why, variable_why, read_behind, parse_word, read_variable, read_node, parse_term, read_root_kind, read_root}
use Rattle.texts.specs.Tabled.{names_in, record_size, word_in, tabled_vocabulary}
use Rattle.texts.proofs.Scanning.{token_none}
use Rattle.clauses.specs.Reading.{Answer, seen_at, Reads, TermTo, ReadsTerm, Below}
use Rattle.phrases.specs.Phrases.{PhraseAnswer, ReadsPhrase, ReadsLeaf, ReadsRootVariable, kind_of, root_read, ReadsRootWord, ReadsRoot}
use Rattle.faults.specs.declared.Fault.{Fault}
use Rattle.faults.specs.declared.Reason.{Reason}
use Rattle.faults.specs.declared.Reason.TheVariants.{PatternDue}
use Rattle.faults.specs.Reasons.{number_of}
use Rattle.faults.proofs.Numbers.{number-some}
use Rattle.clauses.specs.declared.Reached.{Reached}
use Rattle.std.specs.Prelude.{Ok, Err}
use Rattle.clauses.proofs.Fronts.{front-token, front-place, front, mark_some, variable_some}
use Rattle.clauses.proofs.Tables.{result-at}
use Rattle.clauses.proofs.Heads.{Reasoned, variable_reason_lem}

-- ---- a variable

module _ (b g v o' : List ℕ) (s k why : ℕ) (reason : Reasoned b v s 32 1 0 why) where
  why_is : variable_why most_levels (seen_at b v 0 1) (token_at b s) ≡ why
  why_is = variable_reason_lem b v s 32 1 0 why (omega arith) reason

  pub root_variable_refused : (v' : List ℕ) (y : Reason) → why ≡ number_of y → ReadsRootVariable b s g k v o' v' (Err (record { why = y; at = s; of = 0 }))
  root_variable_refused v' y is W l f =
      subst (λ (x : ℕ). ReadsPhrase W b o' v' (parse_then (read_variable 0 (seen_at b v 0 1) l x) (read_root_kind (names_in b (take k g)))) (Err (record { why = y; at = s; of = 0 }))) (sym why_is) (go why (let some = number-some y in omega (arith, is)) is)
    where
      go : (x : ℕ) → 0 < x → x ≡ number_of y → ReadsPhrase W b o' v' (parse_then (read_variable 0 (seen_at b v 0 1) l x) (read_root_kind (names_in b (take k g)))) (Err (record { why = y; at = s; of = 0 }))
      go zero h e = absurd (omega arith)
      go (suc x) h e = ap₂ (λ (i j : ℕ). record { why = i; at = j; of = 0 }) e f.place

  one_set : (l : List ℕ) (x : ℕ) → 0 < length l → take 1 (set l 0 x) ≡ x ∷ []
  one_set [] x h = absurd (omega arith)
  one_set (a ∷ l) x h = refl

  pub root_variable_read : (e : ℕ) (x : PhraseAnswer) → why ≡ 0 → length v ≡ name_count → e ≡ s + token_size (drop s b) → ReadsLeaf b e g k 128 1 o' x →
      ReadsRootVariable b s g k v o' (set v 0 s) x
  root_variable_read e x none size end leaf W l f =
      subst (λ (i : ℕ). ReadsPhrase W b o' (set v 0 s) (parse_then (read_variable 0 (seen_at b v 0 1) l i) (read_root_kind (names_in b (take k g)))) x) (sym (why_is ∙ none))
      (subst (λ (m : List Lexeme). ReadsPhrase W b o' (set v 0 s) (read_root_kind (names_in b (take k g)) (record { term = var 0; seen = record { variables = token l ∷ []; used = 2 } }) m) x) (ap (lexemes_from b) end ∙ sym f.behind)
      (leaf W (set v 0 s) (record { term = var 0; seen = record { variables = token l ∷ []; used = 2 } }) refl
      (ap (λ (u : Token). u ∷ []) f.token ∙ ap (names_in b) (sym (one_set v s (omega arith))))))

-- ---- a word

length-range : (from n : ℕ) → length (range from n) ≡ n
length-range from zero = refl
length-range from (suc n) = ap suc (length-range (suc from) n)

pub word-kind : (k n : ℕ) (r : List ℕ) (f : ℕ) → (word (tabled_vocabulary k n r) f).result ≡ kind_of r n f
word-kind k n r f = go (ltb f n) refl
  where
    go : (t : Bool) → ltb f n ≡ t → (word (tabled_vocabulary k n r) f).result ≡ kind_of r n f
    go true e = result-at k n r f (ltb-true f n e) ∙ sym (cond_true (ltb f n) (get_or r (record_size * f) 0) 0 e)
    go false e =
        let out : length (map (word_in r) (range 0 n)) ≤ f = omega (arith, length-map (range 0 n) (word_in r), length-range 0 n, ltb-false f n e) in
        ap (λ (w : Word). w.result) (get_or-eq_default (map (word_in r) (range 0 n)) no_word out)
        ∙ sym (cond_false (ltb f n) (get_or r (record_size * f) 0) 0 e)

-- What is read is not an open place.
abbrev Shut : Parsed TermRead → Type 0
Shut (parsed a r) = is_open a.term ≡ false
Shut (bad x) = Unit {0}

variable-shut : (due : ℕ) (s : Seen) (l : List Lexeme) (why : ℕ) → Shut (read_variable due s l why)
variable-shut due s l zero = refl
variable-shut due s l (suc why) = tt

word-shut : (below : Below) (N : List Token) (W : Vocabulary) (left due : ℕ) (s : Seen) (l : List Lexeme) (why : ℕ) → Shut (parse_word below N W left due s l why)
word-shut below N W left due s l zero = go (read_behind below (index_in (token l) N) (word W (index_in (token l) N)).kinds (record { variables = s.variables; used = s.used + 2 }) (rest l))
  where
    go : (g : Parsed TermsRead) → Shut (parse_then g (λ ts r. parsed (record { term = app (index_in (token l) N) ts.terms; seen = ts.seen }) r))
    go (parsed ts r) = refl
    go (bad x) = tt
word-shut below N W left due s l (suc why) = tt

node-shut : (below : Below) (N : List Token) (W : Vocabulary) (left due : ℕ) (s : Seen) (l : List Lexeme) → is_identifier (token l) ≡ true → Shut (read_node below N W left due s l)
node-shut below N W left due s l h =
    let parts = and_parts (begins_name (token l)) (not (same (token l) opened) && not (same (token l) kind_word)) h in
    let closed = not-true (same (token l) opened) (and_parts (not (same (token l) opened)) (not (same (token l) kind_word)) parts.1).0 in
    subst Shut (sym (cond_false (same (token l) opened) (parsed (record { term = any; seen = s }) (rest l)) (cond (is_variable (token l)) (read_variable due s l (variable_why left s (token l))) (parse_word below N W left due s l (word_why N W left due s (token l)))) closed))
    (choice Shut (is_variable (token l)) (read_variable due s l (variable_why left s (token l))) (parse_word below N W left due s l (word_why N W left due s (token l))) (λ e. variable-shut due s l (variable_why left s (token l))) (λ e. word-shut below N W left due s l (word_why N W left due s (token l))))

never_open : (N : List Token) (W : Vocabulary) (left due : ℕ) (s : Seen) (l : List Lexeme) → is_identifier (token l) ≡ true → Shut (parse_term N W (suc left) due s l)
never_open N W left due s l h = node-shut (parse_term N W left) N W (suc left) due s l h

shut-root : (W : Vocabulary) (t : Term) → is_open t ≡ false → encode_at W t ≡ encode_root W t
shut-root W any e = let z : ◌≡◌ {A = Bool} true false = e in cc
shut-root W (var n) e = refl
shut-root W (app f ts) e = refl

one_kept : (o : List ℕ) (x : ℕ) → 0 < length o → take 1 (set o 0 x) ≡ x ∷ []
one_kept [] x h = absurd (omega arith)
one_kept (a ∷ o) x h = refl

module _ (b q r o v o' v' : List ℕ) (at s n f kind due : ℕ) (found : f ≡ index_in (token_at b s) (names_in b (take n q))) (kind-is : kind ≡ kind_of r n f) (due-is : due ≡ kind) where
  abbrev N : List Token
  N = names_in b (take n q)

  module _ (k : ℕ) where
    abbrev W : Vocabulary
    W = tabled_vocabulary k n r

    abbrev root_kind : ℕ
    root_kind = (word W (index_in (token_at b s) N)).result

    abbrev term : ℕ → Parsed TermRead
    term x = parse_term N W 32 x (record { variables = []; used = 1 }) (lexemes_from b at)

    due-root : due ≡ root_kind
    due-root = due-is ∙ kind-is ∙ sym (word-kind k n r f) ∙ ap (λ (i : ℕ). (word W i).result) found

    told : (a : Answer) → ReadsTerm b at 32 due q n r (set o 0 kind) 1 v 0 o' v' a → Reads (TermTo W b (set o 0 kind) 1 o' v') (term root_kind) a
    told a read = subst (λ (i : ℕ). Reads (TermTo W b (set o 0 kind) 1 o' v') (term i) a) due-root (read k)

  pub root_word_refused : (x : Fault) → ReadsTerm b at 32 due q n r (set o 0 kind) 1 v 0 o' v' (Err x) → ReadsRootWord b at s q n r o' v' (Err x)
  root_word_refused x read start named k = go (term k (root_kind k)) (told k (Err x) read)
    where
      go : (g : Parsed TermRead) → Reads (TermTo (W k) b (set o 0 kind) 1 o' v') g (Err x) → ReadsPhrase (W k) b o' v' (parse_then g (root_read (root_kind k))) (Err x)
      go (parsed a t) h = absurd h
      go (bad z) h = h

  pub root-word_read : (p : Reached) → ReadsTerm b at 32 due q n r (set o 0 kind) 1 v 0 o' v' (Ok p) → length o ≡ most_bytes →
      ReadsRootWord b at s q n r o' v' (Ok (record { label = length b; kind = due; size = p.to; seen = p.seen; at = p.at }))
  root-word_read p read size start named k =
      go (term k (root_kind k)) (told k (Ok p) read)
      (never_open N (W k) 31 (root_kind k) (record { variables = []; used = 1 }) (lexemes_from b at) (ap is_identifier (front-token b at s start) ∙ named))
    where
      go : (g : Parsed TermRead) → Reads (TermTo (W k) b (set o 0 kind) 1 o' v') g (Ok p) → Shut g →
          ReadsPhrase (W k) b o' v' (parse_then g (root_read (root_kind k))) (Ok (record { label = length b; kind = due; size = p.to; seen = p.seen; at = p.at }))
      go (bad z) h shut = absurd h
      go (parsed a t) h shut = record {
        label = sym (token_none b (length b) (omega arith));
        kind = sym (due-root k);
        bytes = h.written ∙ ap₂ (λ (x y : List ℕ). x ++ y) (one_kept o kind (omega arith)) (shut-root (W k) a.term shut) ∙ ap (λ (x : ℕ). x ∷ encode_root (W k) a.term) (sym due-is ∙ due-root k);
        variables = ap (λ (x : Seen). x.variables) h.seen;
        behind = h.behind;
        inside = h.inside;
        room = h.room;
        few = h.few;
      }

-- ---- the whole root

module _ (b g q r v : List ℕ) (at s k n : ℕ) (inside : at ≤ length b) (start : s ≡ at + blanks (drop at b)) where
  abbrev K : List Token
  K = names_in b (take k g)

  abbrev M : List Token
  M = names_in b (take n q)

  abbrev vocabulary : Vocabulary
  vocabulary = tabled_vocabulary k n r

  abbrev none : Seen
  none = record { variables = []; used = 1 }

  abbrev l : List Lexeme
  l = lexemes_from b at

  tokened : token l ≡ token_at b s
  tokened = front-token b at s start

  abbrev named : Token → Parsed PhraseRead
  named u =
      cond (is_identifier u) (parse_then (parse_term M vocabulary most_levels (word vocabulary (index_in u M)).result none l) (λ a t. parsed (phrase_read (word vocabulary (index_in u M)).result a) t)) (fault_at pattern_due 0 l)

  abbrev closed_root : Token → Parsed PhraseRead
  closed_root u = cond (is_variable u) (parse_then (read_variable 0 none l (variable_why most_levels none u)) (read_root_kind K)) (named u)

  root_is : read_root K M vocabulary l ≡ cond (same (token_at b s) opened) (read_root_kind K (record { term = any; seen = none }) (rest l)) (closed_root (token_at b s))
  root_is = ap (λ (u : Token). cond (same u opened) (read_root_kind K (record { term = any; seen = none }) (rest l)) (closed_root u)) tokened

  pub root_open : (o : List ℕ) (e : ℕ) (x : PhraseAnswer) → same (token_at b s) (95 ∷ []) ≡ true → e ≡ s + token_size (drop s b) → ReadsLeaf b e g k 255 0 o x → ReadsRoot b at g k q n r o v x
  root_open o e x h end leaf =
      subst (λ (p : Parsed PhraseRead). ReadsPhrase vocabulary b o v p x)
      (sym (root_is ∙ cond_true (same (token_at b s) opened) _ _ h ∙ ap (read_root_kind K (record { term = any; seen = none })) ((front b at s inside start (mark_some (token_at b s) 95 h)).behind ∙ ap (lexemes_from b) (sym end))))
      (leaf vocabulary v (record { term = any; seen = none }) refl refl)

  module _ (closed : same (token_at b s) (95 ∷ []) ≡ false) where
    pub root-variable : (o' v' : List ℕ) (x : PhraseAnswer) → is_variable (token_at b s) ≡ true → ReadsRootVariable b s g k v o' v' x → ReadsRoot b at g k q n r o' v' x
    root-variable o' v' x h read =
        subst (λ (p : Parsed PhraseRead). ReadsPhrase vocabulary b o' v' p x)
        (sym (root_is ∙ cond_false (same (token_at b s) opened) _ _ closed ∙ cond_true (is_variable (token_at b s)) _ _ h))
        (read vocabulary l (front b at s inside start (variable_some (token_at b s) h)))

    module _ (plain : is_variable (token_at b s) ≡ false) where
      root-named : read_root K M vocabulary l ≡ named (token_at b s)
      root-named = root_is ∙ cond_false (same (token_at b s) opened) _ _ closed ∙ cond_false (is_variable (token_at b s)) _ _ plain

      pub root_none : (o' v' : List ℕ) → is_identifier (token_at b s) ≡ false → ReadsRoot b at g k q n r o' v' (Err (record { why = PatternDue; at = s; of = 0 }))
      root_none o' v' h =
          subst (λ (p : Parsed PhraseRead). ReadsPhrase vocabulary b o' v' p (Err (record { why = PatternDue; at = s; of = 0 }))) (sym (root-named ∙ cond_false (is_identifier (token_at b s)) _ _ h))
          (ap (λ (i : ℕ). record { why = pattern_due; at = i; of = 0 }) (front-place b at s start))

      pub root-word : (o' v' : List ℕ) (x : PhraseAnswer) → is_identifier (token_at b s) ≡ true → ReadsRootWord b at s q n r o' v' x → ReadsRoot b at g k q n r o' v' x
      root-word o' v' x h read =
          subst (λ (p : Parsed PhraseRead). ReadsPhrase vocabulary b o' v' p x) (sym (root-named ∙ cond_true (is_identifier (token_at b s)) _ _ h)) (read start h k)
