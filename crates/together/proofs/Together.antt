-- Together: what list_book answers for a good book, and the text that is put for it.
--
--   Outcome, book_answers      list_book's reply: what is left behind a pattern is too long, or it is listed
--   said_listed, said_past     its first number tells which
--   Given                      what is known of the inputs
--   many-text, listed-text, past-text                 the text that is put
--   puts_by, alone-puts, many-puts, listed-puts, past-puts     what is promised, in each case
--
use Rattle.std.proofs.Common.{◌≡◌, ℕ, suc, ◌+◌, ◌-◌, ◌%◌, ◌^◌, ◌<◌, ◌≤◌, List, [], ◌∷◌, ◌++◌, map, length, get_or, take, replicate, sym, refl, ap, ◌∙◌, subst, ap₂, inl, arith, take_all}
use mathlib.Core.Option.{Option, some, none}
use lib.ListN.{length-replicate}
use Rattle.terms.specs.Lists.{All}
use Rattle.terms.specs.Term.{Term}
use Rattle.terms.specs.Book.{IsBookListing}
use Rattle.wire.specs.Reply.{Reply, accepted, refused}
use Rattle.wire.specs.Vocabulary.{Vocabulary, signature, encode_vocabulary, HoldsVocabulary}
use Rattle.wire.specs.BookBytes.{most_patterns, patterns_bytes, encode_book, Listable, HoldsBook}
use Rattle.wire.specs.VocabularyLines.{under}
use Rattle.wire.specs.BookLeftovers.{most_listed, PassesBehind, FirstPast, WithinLimits, BookEntries, too_large, BookPromise}
use Rattle.wire.specs.BookComputed.{book_entries}
use Rattle.wire.proofs.BookLimits.{Found, search, found}
use Rattle.wire.proofs.BookLeftovers.{sorted, well_formed, the_listing}
use Rattle.wire.specs.Text.{ascii, newline}
use Rattle.texts.specs.Lexemes.{Token, token_at}
use Rattle.texts.specs.Names.{name_at}
use Rattle.texts.specs.Lexicon.{Lexicon, kind_names, vocabulary_of, GoodLexicon}
use Rattle.texts.specs.Saying.{Tables, TablesFor}
use Rattle.texts.specs.Leftovers.{leftovers_text}
use Rattle.texts.specs.Answering.{leftovers_by}
use Rattle.texts.specs.Together.{few_together, many_text, past_text, together_text, IsTogether, alone, many, past, listed}
use Rattle.texts.proofs.Entries.{lexicon-in_order}
use Rattle.texts.proofs.Blocks.{bare-front}
use Rattle.numbers.specs.Numbers.{reply_numbers}
use Rattle.pages.specs.Pages.{Adds}
use Rattle.pages.proofs.Pages.{adds-nothing, adds_is}
use Rattle.wording.specs.Tables.{tables_in}
use Rattle.together.specs.Together.{PutsTogether, together_by, many_by, past_by, listed_by}

-- ---- list_book's reply

abbrev Outcome : Vocabulary → ℕ → List Term → Reply → Type 0
Outcome W s ts (accepted []) = ⊥
Outcome W s ts (accepted (n ∷ [])) = ⊥
Outcome W s ts (accepted (n ∷ m ∷ [])) = WithinLimits W s ts
Outcome W s ts (accepted (n ∷ m ∷ k ∷ l)) = ⊥
Outcome W s ts (refused n i q) = (n ≡ 26) × FirstPast W s ts q

module _ {v b before after : List ℕ} {r : Reply} (promise : BookPromise v b before after r) (room : most_listed ≤ length before)
    {W : Vocabulary} {s : ℕ} {ts : List Term} (held : HoldsVocabulary v W) (book : HoldsBook W b s ts) where
  abbrev entries : List Term
  entries = book_entries W s ts

  is_listing_lem : IsBookListing (signature W) s ts entries
  is_listing_lem = (the_listing held book entries).1 refl

  -- What is left behind the last pattern has room.
  fits : WithinLimits W s ts → length (patterns_bytes W s entries) ≤ length before
  fits limits =
      let whole : take (suc (length ts - 1)) ts ≡ ts = take_all (suc (length ts - 1)) ts (let low = book.some in omega arith) in
      not_past (λ long. limits (length ts - 1) (let low = book.some in omega arith) (subst (PassesBehind W s) (sym whole) (entries, is_listing_lem, inl long)))
    where
      not_past : (most_listed < length (patterns_bytes W s entries) → ⊥) → length (patterns_bytes W s entries) ≤ length before
      not_past h = let m = room in omega arith

  book_answers : Outcome W s ts r
  book_answers = go (search W s ts) (found W s (well_formed held book) ts (sorted held book))
    where
      go : (o : Option ℕ) → Found W s ts o → Outcome W s ts r
      go (some i) h = subst (Outcome W s ts) (sym ((promise.refuses 26 5 i).1 (under W 26 5 i held (too_large s ts i book h)))) (refl, h)
      go none limits =
          subst (Outcome W s ts)
          (sym ((promise.answered _).1 (W, s, ts, entries, held, book, limits, is_listing_lem, fits limits, refl))) limits

-- By its first number.
module _ (W : Vocabulary) (s : ℕ) (ts : List Term) {numbers : List ℕ} where
  said_listed : (r : Reply) → Outcome W s ts r → numbers ≡ reply_numbers r → get_or numbers 0 0 ≡ 0 →
      WithinLimits W s ts × (m : ℕ) × (r ≡ accepted (get_or numbers 1 0 ∷ m ∷ []))
  said_listed (accepted []) h e z = absurd h
  said_listed (accepted (n ∷ [])) h e z = absurd h
  said_listed (accepted (n ∷ m ∷ [])) h e z = (h, m, ap (λ k. accepted (k ∷ m ∷ [])) (sym (ap (λ l. get_or l 1 0) e)))
  said_listed (accepted (n ∷ m ∷ k ∷ l)) h e z = absurd h
  said_listed (refused n i q) h e z = absurd (omega (arith, h.0, ap (λ l. get_or l 0 0) e))

  said_past : (r : Reply) → Outcome W s ts r → numbers ≡ reply_numbers r → (get_or numbers 0 0 ≡ 0 → ⊥) → FirstPast W s ts (get_or numbers 2 0)
  said_past (accepted []) h e z = absurd h
  said_past (accepted (n ∷ [])) h e z = absurd h
  said_past (accepted (n ∷ m ∷ [])) h e z = absurd (z (ap (λ l. get_or l 0 0) e))
  said_past (accepted (n ∷ m ∷ k ∷ l)) h e z = absurd h
  said_past (refused n i q) h e z = subst (FirstPast W s ts) (sym (ap (λ l. get_or l 2 0) e)) h.1

-- ---- the texts

-- What is put for k patterns of the kind u, whose leftovers are the text y.
abbrev heading : Token → ℕ → List ℕ → List ℕ
heading u k y = ascii "# " ++ (together_by (u ∷ []) 0 k ++ (newline ++ (y ++ newline)))

abbrev names : List ℕ → List ℕ → List Token
names b ks = map (token_at b) ks

record Given (b ks ws ps v : List ℕ) (s n : ℕ) (book : List ℕ) (X : Lexicon) (ts : List Term) : Type 0 where
  good : GoodLexicon X
  kind : s < length X
  tables : TablesFor X [] (tables_in b ks ws ps [])
  vocabulary : v ≡ encode_vocabulary (vocabulary_of X)
  count : n ≡ length ts
  listable : All (Listable (vocabulary_of X) s) ts
  written : n ≤ most_patterns → book ≡ encode_book (vocabulary_of X) s ts

module _ {b ks ws ps v : List ℕ} {s n : ℕ} {book : List ℕ} {X : Lexicon} {ts : List Term} (h : Given b ks ws ps v s n book X ts) where
  name_is : name_at (names b ks) s ≡ name_at (kind_names X) s
  name_is = h.tables.kinds s h.kind

  -- Entries have no variables, so any table of them will do.
  bare-tables : (vs : List ℕ) → TablesFor X [] (tables_in b ks ws ps vs)
  bare-tables vs = record {
    kinds = h.tables.kinds;
    words = h.tables.words;
    places = h.tables.places;
    variables = λ i few. absurd (omega arith);
  }

  many-text : 64 < n → (text : List ℕ) × IsTogether X s ts text × (many_by (names b ks) s n ≡ text)
  many-text more = (
    many_text X s (length ts),
    many (omega (arith, h.count)),
    ap₂ (λ (u : Token) k. many_by (u ∷ []) 0 k) name_is h.count,
  )

  module _ (some : 2 ≤ n) (few : n ≤ 64) {space : List ℕ} {r : Reply} (promise : BookPromise v book (replicate 32768 0) space r)
      {numbers : List ℕ} (said : numbers ≡ reply_numbers r) where
    some_patterns : few_together ≤ length ts
    some_patterns = omega (arith, some, h.count)

    few-patterns : length ts ≤ most_patterns
    few-patterns = omega (arith, few, h.count)

    held : HoldsVocabulary v (vocabulary_of X)
    held = record { in_order = lexicon-in_order X h.good; written = h.vocabulary }

    holds : HoldsBook (vocabulary_of X) book s ts
    holds = record {
      some = omega (arith, some_patterns);
      few = few-patterns;
      patterns = h.listable;
      written = h.written (omega (arith, few));
    }

    outcome : Outcome (vocabulary_of X) s ts r
    outcome = book_answers promise (omega (arith, length-replicate {A = ℕ} 32768 0)) held holds

    listed-text : (vs : List ℕ) → get_or numbers 0 0 ≡ 0 →
        (text : List ℕ) × IsTogether X s ts text × (listed_by (tables_in b ks ws ps vs) s n (get_or numbers 1 0) space ≡ text)
    listed-text vs zero =
        let (limits, m, e) = said_listed (vocabulary_of X) s ts r outcome said zero in
        let x : BookEntries (vocabulary_of X) s ts (get_or numbers 1 0) m space = promise.entries (get_or numbers 1 0) m e (vocabulary_of X) s ts held holds in
        let T : Tables = tables_in b ks ws ps vs in
        let left : leftovers_by T (get_or numbers 1 0) space ≡ leftovers_text X [] s x.entries =
        ap (λ k. leftovers_by T k space) (sym x.count) ∙ bare-front X s T h.good (bare-tables vs) x.entries x.each m space x.written in (
          together_text X s (length ts) x.entries,
          listed x.entries x.as_defined some_patterns few-patterns limits x.is_listing x.fixed,
          ap₂ (λ (u : Token) k. heading u k (leftovers_by T (get_or numbers 1 0) space)) name_is h.count
              ∙ ap (heading (name_at (kind_names X) s) (length ts)) left,
        )

    past-text : (get_or numbers 0 0 ≡ 0 → ⊥) → {i : ℕ} → i ≡ (get_or numbers 2 0 + 1) % 2 ^ 64 →
        (text : List ℕ) × IsTogether X s ts text × (past_by (names b ks) s n i ≡ text)
    past-text left {i} next =
        let x : FirstPast (vocabulary_of X) s ts (get_or numbers 2 0) = said_past (vocabulary_of X) s ts r outcome said left in
        let number : i ≡ suc (get_or numbers 2 0) = let below = x.below in let most = few-patterns in omega arith in (
          past_text X s (length ts) (get_or numbers 2 0),
          past (get_or numbers 2 0) some_patterns few-patterns x,
          ap₂ (λ (u : Token) k. past_by (u ∷ []) 0 k i) name_is h.count
              ∙ ap (past_by (name_at (kind_names X) s ∷ []) 0 (length ts)) number,
        )

-- ---- what is promised

module _ (b ks ws ps v : List ℕ) (s n : ℕ) (book before : List ℕ) (to : ℕ) where
  pub alone-puts : n < 2 → PutsTogether b ks ws ps v s n book before to before to
  alone-puts few = record {
    same = refl;
    puts = λ X ts good kind tables is count listable written. ([], alone (omega (arith, few, count)), adds-nothing before to);
  }

  -- What is put is the text for these inputs, whatever they stand for.
  puts_by : {after : List ℕ} {to' : ℕ} {put : List ℕ} → Adds before to after to' put →
      ((X : Lexicon) (ts : List Term) → Given b ks ws ps v s n book X ts → (text : List ℕ) × IsTogether X s ts text × (put ≡ text)) →
      PutsTogether b ks ws ps v s n book before to after to'
  puts_by adds texts = record {
    same = adds.same;
    puts = λ X ts good kind tables is count listable written.
        let x = texts X ts (record {
          good = good;
          kind = kind;
          tables = tables;
          vocabulary = is;
          count = count;
          listable = listable;
          written = written;
        }) in (x.0, x.1, adds_is x.2 adds);
  }

  module _ {after : List ℕ} {to' : ℕ} where
    pub many-puts : 64 < n → Adds before to after to' (many_by (names b ks) s n) → PutsTogether b ks ws ps v s n book before to after to'
    many-puts more adds = puts_by adds (λ X ts h. many-text h more)

    module _ (some : 2 ≤ n) (few : n ≤ 64) {space : List ℕ} {r : Reply} (promise : BookPromise v book (replicate 32768 0) space r)
        {numbers : List ℕ} (said : numbers ≡ reply_numbers r) where
      pub listed-puts : (vs : List ℕ) → get_or numbers 0 0 ≡ 0 →
          Adds before to after to' (listed_by (tables_in b ks ws ps vs) s n (get_or numbers 1 0) space) →
          PutsTogether b ks ws ps v s n book before to after to'
      listed-puts vs zero adds = puts_by adds (λ X ts h. listed-text h some few promise said vs zero)

      pub past-puts : (get_or numbers 0 0 ≡ 0 → ⊥) → {i : ℕ} → i ≡ (get_or numbers 2 0 + 1) % 2 ^ 64 →
          Adds before to after to' (past_by (names b ks) s n i) → PutsTogether b ks ws ps v s n book before to after to'
      past-puts left next adds = puts_by adds (λ X ts h. past-text h some few promise said left next)
