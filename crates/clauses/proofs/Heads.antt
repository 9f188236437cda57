-- Heads: what a term begins with.
--
--   word_reason_lem, reason_none              why a token is no word that may stand there, by numbers; where there is no reason
--   variable_reason_lem, variable_free        the same of a variable
--   variable-refused, variable-read       a variable
--   head_open, head-variable, head-refused, head-word     a term, by what it begins with
--
use mathlib.Core.Path.{◌≡◌, refl, sym, ap, ap₂, subst, ◌∙◌}
use mathlib.Core.Bool.{Bool, true, false, cond}
use mathlib.Core.List.{List, [], ◌∷◌, ◌++◌, append-nil}
use Prim.Native.Nat.{ℕ, zero, suc, ◌+◌, ◌*◌, ◌<◌, ◌≤◌}
use native.Mathlib.Numerals.{add-one}
use native.Mathlib.Omega.{arith}
use lib.Dec.{eqb, ltb, leb}
use lib.ListN.{length, get_or, take, drop, set, length-set}
use lib.Seq.{take-suc-set}
use borrow.Author.Tests.{ltb-true, leb-true, eqb-false}
use Rattle.wire.specs.Vocabulary.{Vocabulary, word}
use Rattle.wire.specs.TermBytes.{name_byte, name_count, most_bytes}
use Rattle.wire.proofs.Cond.{cond_true, cond_false}
use Rattle.texts.specs.Lexemes.{Token, Lexeme, blanks, token_size, lexemes_from, token_at}
use Rattle.texts.specs.Names.{same, opened, most_name, is_identifier, is_variable, index_in}
use Rattle.texts.specs.Faults.{Parsed, parse_then, token}
use Rattle.texts.specs.PhraseReading.{TermRead, word_bytes, word_why, variable_why, read_behind, parse_word, read_variable, read_node}
use Rattle.texts.specs.Tabled.{names_in, record_size, tabled_vocabulary}
use Rattle.clauses.specs.Reading.{Answer, Within, Lent, Tables, seen_at, Reads, TermTo, word_reason, variable_reason, ReadsVariable, Below, word_read, HeadIs}
use Rattle.std.specs.Prelude.{Ok, Err}
use Rattle.faults.specs.declared.Reason.{Reason}
use Rattle.faults.specs.Reasons.{number_of}
use Rattle.faults.proofs.Numbers.{number-some}
use Rattle.clauses.specs.declared.Head.TheVariants.{Leaf, Word}
use Rattle.clauses.proofs.Fronts.{front-token, front-place, front, mark_some, variable_some, identifier_some}
use Rattle.clauses.proofs.Tables.{result-at, names-count}

-- ---- why a token is no word

-- The kind is looked at only where the word is known.
kind-known : (named : Bool) (f n kind kind' left due to : ℕ) → (f < n → kind ≡ kind') →
    word_reason named f n kind left due to ≡ word_reason named f n kind' left due to
kind-known false f n kind kind' left due to h = refl
kind-known true f n kind kind' left due to h = go (ltb f n) refl
  where
    go : (t : Bool) → ltb f n ≡ t → word_reason true f n kind left due to ≡ word_reason true f n kind' left due to
    go true e = ap (λ x. word_reason true f n x left due to) (h (ltb-true f n e))
    go false e = cond_false (ltb f n) _ _ e ∙ sym (cond_false (ltb f n) _ _ e)

pub word_reason_lem : (b q v r : List ℕ) (k n left due to seen f : ℕ) (u : Token) → n ≤ length q → f ≡ index_in u (names_in b (take n q)) →
    word_why (names_in b (take n q)) (tabled_vocabulary k n r) left due (seen_at b v seen to) u
    ≡ word_reason (is_identifier u) f n (get_or r (record_size * f) 0) left due to
word_reason_lem b q v r k n left due to seen f u size found =
    ap₂ (λ (i j : ℕ). word_reason (is_identifier u) i j (word (tabled_vocabulary k n r) i).result left due to) (sym found) (names-count b n q size)
    ∙ kind-known (is_identifier u) f n _ _ left due to (λ h. result-at k n r f h)

pub record NoReason (identifier : Bool) (f n left to : ℕ) : Type 0 where
  pub named : identifier ≡ true
  pub known : f < n
  pub some : 0 < left
  pub fits : to + word_bytes ≤ most_bytes

pub reason_none : (named : Bool) (f n kind left due to : ℕ) → word_reason named f n kind left due to ≡ 0 → NoReason named f n left to
reason_none false f n kind left due to e = absurd (omega arith)
reason_none true f n kind left due to e = known (ltb f n) refl (eqb kind due) (eqb left 0) refl (leb (to + word_bytes) most_bytes) refl e
  where
    known : (t : Bool) → ltb f n ≡ t → (d : Bool) (l : Bool) → eqb left 0 ≡ l → (m : Bool) → leb (to + word_bytes) most_bytes ≡ m →
        ◌≡◌ {A = ℕ} (cond t (cond d (cond l 19 (cond m 0 20)) 17) 16) 0 → NoReason true f n left to
    known false p d l p' m p'' z = absurd (omega arith)
    known true p false l p' m p'' z = absurd (omega arith)
    known true p true true p' m p'' z = absurd (omega arith)
    known true p true false p' false p'' z = absurd (omega arith)
    known true p true false p' true p'' z = record {
      named = refl;
      known = ltb-true f n p;
      some = let h = eqb-false left 0 p' in omega arith;
      fits = leb-true (to + word_bytes) most_bytes p'';
    }

-- ---- why a token is no variable

-- The reason that variable_why gives for the token at an offset.
abbrev pub Reasoned : List ℕ → List ℕ → ℕ → ℕ → ℕ → ℕ → ℕ → Type 0
Reasoned b v s left to seen why =
    why ≡ variable_reason (length (token_at b s)) (index_in (token_at b s) (names_in b (take seen v))) seen left to

pub variable_reason_lem : (b v : List ℕ) (s left to seen why : ℕ) → seen ≤ length v → Reasoned b v s left to seen why →
    variable_why left (seen_at b v seen to) (token_at b s) ≡ why
variable_reason_lem b v s left to seen why h e =
    ap (λ (j : ℕ). variable_reason (length (token_at b s)) (index_in (token_at b s) (names_in b (take seen v))) j left to) (names-count b seen v h) ∙ sym e

free : (size found seen left to : ℕ) → variable_reason size found seen left to ≡ 0 → (seen < name_count) × (to + 1 ≤ most_bytes)
free size found seen left to e =
    go (leb size (suc most_name)) (ltb found seen) (eqb left 0) (ltb seen name_count) refl (leb (to + 1) most_bytes) refl e
  where
    go : (t d l : Bool) (m : Bool) → ltb seen name_count ≡ m → (x : Bool) → leb (to + 1) most_bytes ≡ x →
        ◌≡◌ {A = ℕ} (cond t (cond d 21 (cond l 19 (cond m (cond x 0 20) 22))) 3) 0 → (seen < name_count) × (to + 1 ≤ most_bytes)
    go false d l m p x p' z = absurd (omega arith)
    go true true l m p x p' z = absurd (omega arith)
    go true false true m p x p' z = absurd (omega arith)
    go true false false false p x p' z = absurd (omega arith)
    go true false false true p false p' z = absurd (omega arith)
    go true false false true p true p' z = (ltb-true seen name_count p, leb-true (to + 1) most_bytes p')

pub variable_free : (b v : List ℕ) (s left to seen why : ℕ) → Reasoned b v s left to seen why → why ≡ 0 → (seen < name_count) × (to + 1 ≤ most_bytes)
variable_free b v s left to seen why e h =
    free (length (token_at b s)) (index_in (token_at b s) (names_in b (take seen v))) seen left to (sym e ∙ h)

pub variable-refused : (b o v o' v' : List ℕ) (s left due to seen : ℕ) (why : Reason) → Within b s 0 to seen → Lent o v →
    Reasoned b v s left to seen (number_of why) →
    ReadsVariable b s left due o to v seen o' v' (Err (record { why = why; at = s; of = due }))
variable-refused b o v o' v' s left due to seen why w lent e W l f =
    subst (λ (x : ℕ). Reads (TermTo W b o to o' v') (read_variable due (seen_at b v seen to) l x) (Err (record { why = why; at = s; of = due })))
    (sym (variable_reason_lem b v s left to seen (number_of why) (omega (arith, w.few, lent.variables)) e)) (go (number_of why) (number-some why) refl)
  where
    go : (x : ℕ) → 0 < x → x ≡ number_of why → Reads (TermTo W b o to o' v') (read_variable due (seen_at b v seen to) l x) (Err (record { why = why; at = s; of = due }))
    go zero h is = absurd (omega arith)
    go (suc x) h is = ap₂ (λ (i j : ℕ). record { why = i; at = j; of = due }) is f.place

map_snoc : (b : List ℕ) (p : List ℕ) (s : ℕ) → names_in b (p ++ (s ∷ [])) ≡ names_in b p ++ (token_at b s ∷ [])
map_snoc b [] s = refl
map_snoc b (x ∷ p) s = ap (λ (l : List Token). token_at b x ∷ l) (map_snoc b p s)

pub variable-read : (b o v : List ℕ) (s left due to seen why e : ℕ) → Within b s 0 to seen → Lent o v →
    Reasoned b v s left to seen why → why ≡ 0 → e ≡ s + token_size (drop s b) →
    ReadsVariable b s left due o to v seen (set o to (name_byte seen)) (set v seen s)
    (Ok (record { at = e; to = to + 1; seen = seen + 1; map = 1 }))
variable-read b o v s left due to seen why e w lent reason none end W l f =
    subst (λ (x : ℕ). Reads (TermTo W b o to (set o to (name_byte seen)) (set v seen s)) (read_variable due (seen_at b v seen to) l x) (Ok (record { at = e; to = to + 1; seen = seen + 1; map = 1 })))
    (sym (variable_reason_lem b v s left to seen why (omega (arith, w.few, lent.variables)) reason ∙ none))
    (record {
      behind = f.behind ∙ ap (lexemes_from b) (sym end);
      inside = omega (arith, f.inside);
      room = fits.1;
      few = omega (arith, fits.0);
      seen = ap (λ (l : List Token). record { variables = l; used = to + 1 }) (ap (λ (u : Token). names_in b (take seen v) ++ (u ∷ [])) f.token ∙ sym names);
      written = ap (λ (i : ℕ). take i (set o to (name_byte seen))) (add-one to) ∙ take-suc-set o to (name_byte seen) (omega (arith, fits.1, lent.bytes)) ∙ ap (λ (i : ℕ). take to o ++ (name_byte i ∷ [])) (sym (names-count b seen v (omega (arith, w.few, lent.variables))));
      map = refl;
      count = refl;
      lent = record { bytes = length-set o to (name_byte seen) ∙ lent.bytes; variables = length-set v seen s ∙ lent.variables };
    })
  where
    fits : (seen < name_count) × (to + 1 ≤ most_bytes)
    fits = variable_free b v s left to seen why reason none

    names : names_in b (take (seen + 1) (set v seen s)) ≡ names_in b (take seen v) ++ (token_at b s ∷ [])
    names = ap (λ (i : ℕ). names_in b (take i (set v seen s))) (add-one seen) ∙ ap (names_in b) (take-suc-set v seen s (omega (arith, fits.0, lent.variables))) ∙ map_snoc b (take seen v) s

-- ---- what a term begins with

module _ (b q r o v : List ℕ) (at s k n left due to seen : ℕ) (w : Within b at n to seen) (lent : Lent o v) (start : s ≡ at + blanks (drop at b)) where
  abbrev vocabulary : Vocabulary
  vocabulary = tabled_vocabulary k n r

  abbrev node : Below → Parsed TermRead
  node below = read_node below (names_in b (take n q)) vocabulary left due (seen_at b v seen to) (lexemes_from b at)

  tokened : token (lexemes_from b at) ≡ token_at b s
  tokened = front-token b at s start

  pub head_open : (e : ℕ) → same (token_at b s) (95 ∷ []) ≡ true → e ≡ s + token_size (drop s b) →
      HeadIs vocabulary b n left o to v seen o v node (Ok (Leaf (record { at = e; to = to; seen = seen; map = 0 })))
  head_open e h end below =
      let f = front b at s w.inside start (mark_some (token_at b s) 95 h) in
      subst (λ (g : Parsed TermRead). Reads (TermTo vocabulary b o to o v) g (Ok (record { at = e; to = to; seen = seen; map = 0 })))
      (sym (cond_true (same (token (lexemes_from b at)) opened) _ _ (ap (λ (u : Token). same u opened) tokened ∙ h)))
      (record {
        behind = f.behind ∙ ap (lexemes_from b) (sym end);
        inside = omega (arith, f.inside);
        room = w.room;
        few = w.few;
        seen = refl;
        written = sym (append-nil (take to o));
        map = refl;
        count = refl;
        lent = lent;
      })

  -- The term is not open.
  module _ (closed : same (token_at b s) (95 ∷ []) ≡ false) where
    not_open : (below : Below) → node below ≡
        cond (is_variable (token (lexemes_from b at))) (read_variable due (seen_at b v seen to) (lexemes_from b at) (variable_why left (seen_at b v seen to) (token (lexemes_from b at))))
        (parse_word below (names_in b (take n q)) vocabulary left due (seen_at b v seen to) (lexemes_from b at) (word_why (names_in b (take n q)) vocabulary left due (seen_at b v seen to) (token (lexemes_from b at))))
    not_open below = cond_false (same (token (lexemes_from b at)) opened) _ _ (ap (λ (u : Token). same u opened) tokened ∙ closed)

    pub head-variable : (o' v' : List ℕ) (a : Answer) → is_variable (token_at b s) ≡ true → ReadsVariable b s left due o to v seen o' v' a →
        (below : Below) → Reads (TermTo vocabulary b o to o' v') (node below) a
    head-variable o' v' a h read below =
        subst (λ (g : Parsed TermRead). Reads (TermTo vocabulary b o to o' v') g a)
        (sym
        (not_open below
        ∙ cond_true (is_variable (token (lexemes_from b at))) _ _ (ap is_variable tokened ∙ h)
        ∙ ap (λ (u : Token). read_variable due (seen_at b v seen to) (lexemes_from b at) (variable_why left (seen_at b v seen to) u)) tokened))
        (read vocabulary (lexemes_from b at) (front b at s w.inside start (variable_some (token_at b s) h)))

    -- .. and no variable.
    module _ (f why : ℕ) (plain : is_variable (token_at b s) ≡ false) (tables : Tables q r) (found : f ≡ index_in (token_at b s) (names_in b (take n q)))
        (reason : why ≡ word_reason (is_identifier (token_at b s)) f n (get_or r (record_size * f) 0) left due to) where
      no-variable : (below : Below) → node below ≡ parse_word below (names_in b (take n q)) vocabulary left due (seen_at b v seen to) (lexemes_from b at) why
      no-variable below =
          not_open below
          ∙ cond_false (is_variable (token (lexemes_from b at))) _ _ (ap is_variable tokened ∙ plain)
          ∙ ap (λ (x : ℕ). parse_word below (names_in b (take n q)) vocabulary left due (seen_at b v seen to) (lexemes_from b at) x)
          (ap (λ (u : Token). word_why (names_in b (take n q)) vocabulary left due (seen_at b v seen to) u) tokened
          ∙ word_reason_lem b q v r k n left due to seen f (token_at b s) (omega (arith, w.words, tables.names)) found
          ∙ sym reason)

      pub head-refused : (o' v' : List ℕ) (x : Reason) → why ≡ number_of x →
          HeadIs vocabulary b n left o to v seen o' v' node (Err (record { why = x; at = s; of = due }))
      head-refused o' v' x is below =
          subst (λ (g : Parsed TermRead). Reads (TermTo vocabulary b o to o' v') g (Err (record { why = x; at = s; of = due })))
          (sym (no-variable below)) (go why (let some = number-some x in omega (arith, is)) is)
        where
          go : (i : ℕ) → 0 < i → i ≡ number_of x →
              Reads (TermTo vocabulary b o to o' v') (parse_word below (names_in b (take n q)) vocabulary left due (seen_at b v seen to) (lexemes_from b at) i) (Err (record { why = x; at = s; of = due }))
          go zero h e = absurd (omega arith)
          go (suc i) h e = ap₂ (λ (j p : ℕ). record { why = j; at = p; of = due }) e (front-place b at s start)

      pub head-word : (e : ℕ) → why ≡ 0 → e ≡ s + token_size (drop s b) →
          HeadIs vocabulary b n left o to v seen o v node (Ok (Word f e))
      head-word e h end =
          let none = reason_none (is_identifier (token_at b s)) f n (get_or r (record_size * f) 0) left due to (sym reason ∙ h) in
          let first = front b at s w.inside start (identifier_some (token_at b s) none.named) in (
            refl,
            refl,
            record {
              some = none.some;
              known = none.known;
              fits = none.fits;
              inside = omega (arith, first.inside);
              behind = λ below.
                  no-variable below
                  ∙ ap (λ (x : ℕ). parse_word below (names_in b (take n q)) vocabulary left due (seen_at b v seen to) (lexemes_from b at) x) h
                  ∙ ap₂ (λ (i : ℕ) (m : List Lexeme). parse_then (read_behind below i (word vocabulary i).kinds (seen_at b v seen (to + word_bytes)) m) (word_read i))
                  (ap (λ (u : Token). index_in u (names_in b (take n q))) first.token ∙ sym found)
                  (first.behind ∙ ap (lexemes_from b) (sym end));
            },
          )
