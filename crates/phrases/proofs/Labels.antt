-- Labels: a pattern with its label, where it has one.
--
--   label_none, label-apart                   a pattern without label
--   label-long, label-read                    a pattern with one
--
use mathlib.Core.Path.{◌≡◌, sym, ap, ap₂, subst, ◌∙◌}
use mathlib.Core.Bool.{Bool, true, false, ◌&&◌, cond}
use mathlib.Core.List.{List, [], ◌∷◌}
use Prim.Native.Nat.{ℕ, ◌+◌, ◌-◌, ◌<◌, ◌≤◌}
use native.Mathlib.Omega.{arith}
use lib.Dec.{leb}
use lib.ListN.{length, take, drop}
use borrow.Author.Tests.{le-leb, lt-leb}
use Rattle.wire.proofs.Cond.{cond_true, cond_false}
use Rattle.texts.specs.Lexemes.{Token, Lexeme, blanks, token_size, lexemes_from, token_at}
use Rattle.texts.specs.Names.{same, mark, colon, most_name, is_identifier}
use Rattle.texts.specs.Faults.{Parsed, parsed, bad, parse_then, token, rest, long_name}
use Rattle.texts.specs.PhraseReading.{PhraseRead, fault_at, labelled, read_root, read_phrase}
use Rattle.texts.specs.Tabled.{names_in, tabled_vocabulary}
use Rattle.texts.proofs.Scanning.{token-length}
use Rattle.faults.specs.declared.Reason.TheVariants.{LongName}
use Rattle.clauses.specs.Reading.{Front}
use Rattle.phrases.specs.Phrases.{PhraseAnswer, ReadsPhrase, ReadsRoot, labelled_by, ReadsLabelled}
use Rattle.std.specs.Prelude.{Ok, Err}
use Rattle.clauses.proofs.Fronts.{front-token, front-place, front, mark_some, identifier_some}

module _ (b g q r : List ℕ) (at s k n : ℕ) (inside : at ≤ length b) (start : s ≡ at + blanks (drop at b)) where
  abbrev root : List Lexeme → Parsed PhraseRead
  root m = read_root (names_in b (take k g)) (names_in b (take n q)) (tabled_vocabulary k n r) m

  abbrev l : List Lexeme
  l = lexemes_from b at

  abbrev tested : Bool
  tested = is_identifier (token l) && same (token (rest l)) (mark colon)

  abbrev with_label : Parsed PhraseRead
  with_label = cond (leb (length (token l)) most_name) (parse_then (root (rest (rest l))) (λ p t. parsed (labelled (token l) p) t)) (fault_at long_name 0 l)

  unlabelled : (o v : List ℕ) (x : PhraseAnswer) → tested ≡ false → ReadsRoot b at g k q n r o v x → ReadsLabelled b at g k q n r o v x
  unlabelled o v x h read = subst (λ (p : Parsed PhraseRead). ReadsPhrase (tabled_vocabulary k n r) b o v p x) (sym (cond_false tested with_label (root l) h)) read

  pub label_none : (o v : List ℕ) (x : PhraseAnswer) → is_identifier (token_at b s) ≡ false → ReadsRoot b at g k q n r o v x → ReadsLabelled b at g k q n r o v x
  label_none o v x h read = unlabelled o v x (ap (λ (t : Bool). t && same (token (rest l)) (mark colon)) (ap is_identifier (front-token b at s start) ∙ h)) read

  module _ (e c : ℕ) (named : is_identifier (token_at b s) ≡ true) (end : e ≡ s + token_size (drop s b)) (next : c ≡ e + blanks (drop e b)) where
    first : Front b s l
    first = front b at s inside start (identifier_some (token_at b s) named)

    e-inside : e ≤ length b
    e-inside = omega (arith, first.inside)

    rest_is : rest l ≡ lexemes_from b e
    rest_is = first.behind ∙ ap (lexemes_from b) (sym end)

    tested_is : tested ≡ same (token_at b c) (mark colon)
    tested_is =
        ap₂ (λ (t : Bool) (u : Token). t && same u (mark colon)) (ap is_identifier first.token ∙ named) (ap token rest_is ∙ front-token b e c next)

    pub label-apart : (o v : List ℕ) (x : PhraseAnswer) → same (token_at b c) (58 ∷ []) ≡ false → ReadsRoot b at g k q n r o v x → ReadsLabelled b at g k q n r o v x
    label-apart o v x h read = unlabelled o v x (tested_is ∙ h) read

    size_is : length (token l) ≡ e - s
    size_is = ap length first.token ∙ token-length b s ∙ (let z : token_size (drop s b) ≡ e - s = omega arith in z)

    module _ (stands : same (token_at b c) (58 ∷ []) ≡ true) where
      labelled_is : read_phrase (names_in b (take k g)) (names_in b (take n q)) (tabled_vocabulary k n r) l ≡ with_label
      labelled_is = cond_true tested with_label (root l) (tested_is ∙ stands)

      pub label-long : (o v : List ℕ) → 32 < e - s → ReadsLabelled b at g k q n r o v (Err (record { why = LongName; at = s; of = 0 }))
      label-long o v h =
          subst (λ (p : Parsed PhraseRead). ReadsPhrase (tabled_vocabulary k n r) b o v p (Err (record { why = LongName; at = s; of = 0 })))
          (sym (labelled_is ∙ cond_false (leb (length (token l)) most_name) _ _ (lt-leb (length (token l)) most_name (omega (arith, size_is)))))
          (ap (λ (i : ℕ). record { why = long_name; at = i; of = 0 }) (front-place b at s start))

      second : Front b c (lexemes_from b e)
      second = front b e c e-inside next (mark_some (token_at b c) 58 stands)

      pub root-inside : (e₂ : ℕ) → e₂ ≡ c + token_size (drop c b) → e₂ ≤ length b
      root-inside e₂ end₂ = omega (arith, second.inside)

      pub label-read : (o v : List ℕ) (e₂ : ℕ) (y : PhraseAnswer) → e - s ≤ 32 → e₂ ≡ c + token_size (drop c b) → ReadsRoot b e₂ g k q n r o v y →
          ReadsLabelled b at g k q n r o v (labelled_by s y)
      label-read o v e₂ y h end₂ read =
          subst (λ (p : Parsed PhraseRead). ReadsPhrase (tabled_vocabulary k n r) b o v p (labelled_by s y))
          (sym
          (labelled_is
          ∙ cond_true (leb (length (token l)) most_name) _ _ (le-leb (length (token l)) most_name (omega (arith, size_is)))
          ∙ ap (λ (m : List Lexeme). parse_then (root m) (λ p t. parsed (labelled (token l) p) t)) (ap rest rest_is ∙ second.behind ∙ ap (lexemes_from b) (sym end₂))))
          (go (root (lexemes_from b e₂)) y read)
        where
          go : (p : Parsed PhraseRead) (y : PhraseAnswer) → ReadsPhrase (tabled_vocabulary k n r) b o v p y →
              ReadsPhrase (tabled_vocabulary k n r) b o v (parse_then p (λ p t. parsed (labelled (token l) p) t)) (labelled_by s y)
          go (parsed p t) (Ok z) h = record {
            label = first.token;
            kind = h.kind;
            bytes = h.bytes;
            variables = h.variables;
            behind = h.behind;
            inside = h.inside;
            room = h.room;
            few = h.few;
          }
          go (parsed p t) (Err z) h = absurd h
          go (bad f) (Ok z) h = absurd h
          go (bad f) (Err z) h = h
