-- Answering: what is read of a text as tables, and what is said of it.
--
--   map_range, map-map         maps over ranges
--   row_many, row_counts       the numbers of places of a kind's rows, and of a vocabulary's
--   listings_are               every good pattern has leftovers
--   Well                       the answer for a file is put
--   answers-ill, answers-well  what is put, by what is read
--   lexicon_in                  the vocabulary that the tables have
--   readable                   the text may be read on
--   vocabulary-same, known_same, read_same    what is read by the tables is what is read by it
--   stands                     the tables are those of a good vocabulary
--   due                        the paragraphs that were read are due
--   answers-bad, answers-fine  what is put where the vocabulary was read
--   told-number                what is said of a fault goes by its reason's number
--   answers-long, answers-lexicon    .. where it was not
--   lexicon-known              the vocabulary was read
--   OneOf b, one_of            the text is one of a file, or has a fault
--   tail_so                    what holds of what is printed for the patterns of each kind together, and what follows from it
--   held, unheld               the page holds a text, or it is too long
--   whole-fits, whole-full     the page holds the answer, or says that it is too long
--   whole_fit_inside, whole-inside    and that is on the page
--
use mathlib.Core.Path.{◌≡◌, refl, sym, ap, ap₂, subst, ◌∙◌}
use mathlib.Core.List.{List, [], ◌∷◌, ◌++◌, map, map-append}
use mathlib.Core.Logic.{◌⊎◌, inl, inr}
use Prim.Native.Nat.{ℕ, suc, ◌+◌, ◌*◌, ◌<◌, ◌≤◌}
use native.Mathlib.Omega.{arith}
use lib.Dec.{leb}
use lib.ListN.{length, get_or, take, length-map}
use lib.Seq.{length-take-le}
use borrow.Author.Tests.{le-leb, lt-leb}
use Rattle.terms.specs.Lists.{All, range}
use Rattle.terms.specs.Term.{Term}
use Rattle.terms.specs.Productive.{listing_of}
use Rattle.terms.proofs.All.{all_implies, all-range, map_agree}
use Rattle.terms.proofs.Theorems.{listing_is_one}
use Rattle.wire.specs.Vocabulary.{Vocabulary, most_words, signature}
use Rattle.wire.proofs.Words.{in_order_well_formed}
use Rattle.wire.proofs.Cond.{cond_true, cond_false}
use Rattle.texts.specs.Lexemes.{Lexeme, lexemes_from, token_at}
use Rattle.texts.specs.Lexicon.{WordText, Lexicon, word_names, all_words, vocabulary_of, GoodLexicon}
use Rattle.texts.specs.Phrases.{Phrase, GoodWhole}
use Rattle.texts.specs.Files.{most_text, Paragraph, File, phrases_of, GoodParagraph, IsText}
use Rattle.texts.specs.Faults.{Fault, Parsed, parsed, bad}
use Rattle.texts.specs.Complaints.{Known, complaint}
use Rattle.texts.specs.Answers.{page_size, desk_text, too_long_text, bounded, AreListings}
use Rattle.texts.specs.Saying.{place_counts}
use Rattle.texts.specs.LexiconReading.{WordRow, LexiconRead}
use Rattle.texts.specs.Tabled.{names_in, record_size, tabled_places, tabled_vocabulary, known_in}
use Rattle.texts.specs.Answering.{Read?, read_well, read_ill, read_paragraphs, vocabulary_read, known_read, known_nothing, read_file}
use Rattle.texts.specs.Desk.{DeskPromise}
use Rattle.texts.specs.Laws.{rows_from, lexicon_read}
use Rattle.texts.proofs.Course.{file_long, file_lexicon, file_paragraphs, file_well}
use Rattle.texts.proofs.FilesRead.{vocabularies_are_read, files_are_read}
use Rattle.texts.proofs.FilesExact.{files_are_exact}
use Rattle.texts.proofs.Entries.{lexicon-in_order, phrase-linear}
use Rattle.complaints.specs.Parts.{fault}
use Rattle.dues.proofs.Tables.{counted-here}
use Rattle.pages.specs.Pages.{Holds, Adds}
use Rattle.pages.proofs.Pages.{holds_none}
use Rattle.lexicon.specs.Rows.{row_in, rows_in}
use Rattle.lexicon.specs.Answers.{LexiconAnswer, LexiconPromise}
use Rattle.lexicon.proofs.Rows.{row_places}
use Rattle.lexicon.specs.declared.Counts.{Counts}
use Rattle.lexicon.specs.declared.Refusal.{Refusal}
use Rattle.std.specs.Prelude.{Result, Ok, Err}
use Rattle.faults.specs.declared.Fault as faults-fault
use Rattle.faults.specs.Reasons.{number_of, fault_of}
use Rattle.files.specs.Puts.{PutsFile}
use Rattle.gatherings.specs.Courses.{Readable}
use Rattle.paragraphs.specs.Paragraphs.{places_table, paragraphs_from, Says, Checks, Stands, Due}
use Rattle.paragraphs.proofs.Courses.{courses}
use Rattle.tails.specs.Tails.{Tailed}
use Rattle.tails.proofs.Tailing.{course-moved, good_phrases}
use Rattle.answers.specs.Asked.{LexiconKnown, AnswersWhole}

-- ---- lists

map_range : {A : Type 0} (f g : ℕ → A) (n : ℕ) → ((i : ℕ) → i < n → f i ≡ g i) → map f (range 0 n) ≡ map g (range 0 n)
map_range f g n h = map_agree f g (range 0 n) (all_implies _ _ (λ i k. h i (omega arith)) (range 0 n) (all-range 0 n))

map-map : {A : Type 0} (g : WordRow → A) (h : ℕ → WordRow) (l : List ℕ) → map g (map h l) ≡ map (λ i. g (h i)) l
map-map g h [] = refl
map-map {A} g h (i ∷ l) = ap (λ (k : List A). g (h i) ∷ k) (map-map g h l)

abbrev many : WordRow → ℕ
many x = length x.places

abbrev many_of : WordText → ℕ
many_of w = length w.places

row_many : (k : ℕ) (ws : List WordText) → map many (map (λ (w : WordText). record { kind = k; places = w.places }) ws) ≡ map many_of ws
row_many k [] = refl
row_many k (w ∷ ws) = ap (λ (l : List ℕ). many_of w ∷ l) (row_many k ws)

row_counts : (k : ℕ) (X : Lexicon) → map many (rows_from k X) ≡ place_counts X
row_counts k [] = refl
row_counts k (x ∷ X) =
    map-append many (map (λ (w : WordText). record { kind = k; places = w.places }) x.words) (rows_from (suc k) X)
    ∙ ap₂ ◌++◌ (row_many k x.words) (row_counts (suc k) X)
    ∙ sym (map-append many_of x.words (all_words X))

-- ---- patterns

listings_are : (X : Lexicon) → GoodLexicon X → (ps : List Phrase) → All (GoodWhole X) ps → (ls : List (List Term)) × AreListings X ps ls
listings_are X good [] h = ([], tt)
listings_are X good (p ∷ ps) h =
    let more = listings_are X good ps h.1 in
    let own = listing_of (signature (vocabulary_of X)) p.kind p.term in
    let linear = phrase-linear X p.variables p.kind p.term h.0.phrase in
    let one = listing_is_one (signature (vocabulary_of X)) p.term p.kind (in_order_well_formed (vocabulary_of X) (lexicon-in_order X good)) h.0.phrase.term.good.sorted.sorted linear in
    (own ∷ more.0, ((one own).1 refl, more.1))

-- ---- by what is read

abbrev Well : List ℕ → ℕ → List ℕ → ℕ → File → List (List Term) → Type 0
Well before start after to F ls = Tailed F.lexicon (phrases_of F.paragraphs) (λ tail. Adds before start after to (desk_text F ls tail))

module _ {b before : List ℕ} {start : ℕ} {after : List ℕ} {to : ℕ} where
  answers-ill : (x : Fault) (T : Known) → read_file b ≡ read_ill x T → Adds before start after to (complaint b T x) → AnswersWhole b before start after to
  answers-ill x T e h = record { well = well; ill = ill }
    where
      well : (F : File) (ls : List (List Term)) → IsText b F → AreListings F.lexicon (phrases_of F.paragraphs) ls → Well before start after to F ls
      well F ls t l =
          let k : read_ill x T ≡ read_well (lexicon_read F.lexicon) F.paragraphs = sym e ∙ files_are_read b F t in
          let z : ◌≡◌ {A = ℕ} 0 1 = cc in
          absurd (omega arith)

      ill : (y : Fault) (U : Known) → read_file b ≡ read_ill y U → Adds before start after to (complaint b U y)
      ill y U q =
          let k : read_ill x T ≡ read_ill y U = sym e ∙ q in
          let same : x ≡ y = cc in
          let these : T ≡ U = cc in
          subst (λ (U : Known). Adds before start after to (complaint b U y)) these
          (subst (λ (y : Fault). Adds before start after to (complaint b T y)) same h)

  answers-well : (a : LexiconRead) (qs : List Paragraph) → read_file b ≡ read_well a qs →
      ((F : File) (ls : List (List Term)) → IsText b F → a ≡ lexicon_read F.lexicon → qs ≡ F.paragraphs → AreListings F.lexicon (phrases_of F.paragraphs) ls → Well before start after to F ls) →
      AnswersWhole b before start after to
  answers-well a qs e h = record { well = well; ill = ill }
    where
      well : (F : File) (ls : List (List Term)) → IsText b F → AreListings F.lexicon (phrases_of F.paragraphs) ls → Well before start after to F ls
      well F ls t l =
          let k : read_well a qs ≡ read_well (lexicon_read F.lexicon) F.paragraphs = sym e ∙ files_are_read b F t in
          let same : a ≡ lexicon_read F.lexicon = cc in
          let these : qs ≡ F.paragraphs = cc in
          h F ls t same these l

      ill : (y : Fault) (U : Known) → read_file b ≡ read_ill y U → Adds before start after to (complaint b U y)
      ill y U q =
          let k : read_well a qs ≡ read_ill y U = sym e ∙ q in
          let z : ◌≡◌ {A = ℕ} 0 1 = cc in
          absurd (omega arith)

-- ---- where the vocabulary was read

module _ {b : List ℕ} {at : ℕ} {ks : List ℕ} {k : ℕ} {ws : List ℕ} {n : ℕ} {r : List ℕ} (h : LexiconKnown b at ks k ws n r) where
  abbrev lexicon_in : LexiconRead
  lexicon_in = record { kind_names = names_in b (take k ks); word_names = names_in b (take n ws); rows = rows_in n r }

  pub readable : Readable b at k n
  readable = record { short = h.short; inside = h.fits.within; kinds = h.fits.few_kinds; words = h.fits.tables.few }

  names-many : (m : ℕ) (q : List ℕ) → m ≤ length q → length (names_in b (take m q)) ≡ m
  names-many m q few = length-map (take m q) (token_at b) ∙ length-take-le m q few

  words-many : length (names_in b (take n ws)) ≡ n
  words-many = names-many n ws (omega (arith, h.fits.tables.few, h.fits.tables.words_size))

  vocabulary-same : tabled_vocabulary k n r ≡ vocabulary_read lexicon_in
  vocabulary-same =
      ap₂ (λ i (l : List _). record { kinds = i; words = l })
      (sym (names-many k ks (omega (arith, h.fits.few_kinds, h.fits.kinds_size)))) h.fits.rows

  rows-many : map many (rows_in n r) ≡ map (λ (f : ℕ). get_or r (record_size * f + 1) 0) (range 0 n)
  rows-many = map-map many (row_in r) (range 0 n) ∙ map_range (λ f. many (row_in r f)) (λ f. get_or r (record_size * f + 1) 0) n (row_places h.fits.tables)

  rows-placed : map many (rows_in n r) ≡ map (tabled_places r) (range 0 n)
  rows-placed =
      rows-many
      ∙ map_range (λ f. get_or r (record_size * f + 1) 0) (tabled_places r) n
      (λ f less. let c = h.fits.tables.counts f less in omega arith)

  known_same : known_read lexicon_in ≡ known_in b ks k ws n r
  known_same =
      ap₂ (λ (x y : List ℕ). record { kinds = names_in b (take k ks); words = names_in b (take n ws); results = x; places = y })
      (map-map (λ (x : WordRow). x.kind) (row_in r) (range 0 n)) rows-placed

  stands : (X : Lexicon) → GoodLexicon X → lexicon_in ≡ lexicon_read X → Stands b ks k ws n r X
  stands X good e = record {
    good = good;
    kinds = ap (λ (a : LexiconRead). a.kind_names) e;
    words = ap (λ (a : LexiconRead). a.word_names) e;
    vocabulary = vocabulary-same ∙ ap vocabulary_read e ∙ vocabularies_are_read X good;
    places = places;
  }
    where
      counts : map (λ (f : ℕ). get_or r (record_size * f + 1) 0) (range 0 n) ≡ place_counts X
      counts = sym rows-many ∙ ap (λ (a : LexiconRead). map many a.rows) e ∙ row_counts 0 X

      places : (f : ℕ) → f < length (word_names X) → get_or (places_table r) f 0 ≡ get_or (place_counts X) f 0
      places f less =
          let few : f < n = omega (arith, words-many, ap (λ (a : LexiconRead). length a.word_names) e) in
          counted-here (λ (f : ℕ). get_or r (record_size * f + 1) 0) most_words f (omega (arith, h.fits.tables.few))
          ∙ sym (counted-here (λ (f : ℕ). get_or r (record_size * f + 1) 0) n f few)
          ∙ ap (λ (l : List ℕ). get_or l f 0) counts

  abbrev read_in : Parsed (List Paragraph)
  read_in = paragraphs_from b at ks k ws n r

  read_same : read_in ≡ read_paragraphs lexicon_in.kind_names lexicon_in.word_names (vocabulary_read lexicon_in) (length (lexemes_from b at)) (lexemes_from b at)
  read_same =
      ap (λ (W : Vocabulary). read_paragraphs (names_in b (take k ks)) (names_in b (take n ws)) W (length (lexemes_from b at)) (lexemes_from b at)) vocabulary-same

  due : (X : Lexicon) (us qs : List Paragraph) (m : List Lexeme) (ls : List (List Term)) (c : ℕ) → Stands b ks k ws n r X → length us ≡ c → read_in ≡ parsed us m → us ≡ qs →
      All (GoodParagraph X) qs → AreListings X (phrases_of qs) ls → Due b at X c qs ls
  due X us qs m ls c s count e same goods listings = record {
    count = ap length (sym same) ∙ count;
    course =
        course-moved s.kinds s.words s.vocabulary (lexemes_from b at) qs
        (courses (names_in b (take k ks)) (names_in b (take n ws)) (tabled_vocabulary k n r) (lexemes_from b at) qs m
        (e ∙ ap (λ (l : List Paragraph). parsed l m) same));
    goods = goods;
    listings = listings;
  }

  module _ {before : List ℕ} {start : ℕ} {after : List ℕ} {to : ℕ} {c : Result ℕ faults-fault.Fault} (checks : Checks b at ks k ws n r c) where
    pub answers-bad : {x : faults-fault.Fault} → c ≡ Err x → {why : ℕ} → why ≡ number_of x.why →
        Adds before start after to (complaint b (known_in b ks k ws n r) (fault why x.at x.of)) → AnswersWhole b before start after to
    answers-bad {x} is number put = go read_in refl (subst (Says read_in) is (checks readable))
      where
        go : (y : Parsed (List Paragraph)) → read_in ≡ y → Says y (Err x) → AnswersWhole b before start after to
        go (parsed qs m) e s = absurd s
        go (bad f) e s =
            answers-ill (fault_of x) (known_in b ks k ws n r)
            (file_paragraphs b h.short lexicon_in (lexemes_from b at) h.same (fault_of x) (sym read_same ∙ e ∙ ap bad s)
            ∙ ap (read_ill (fault_of x)) known_same)
            (subst (λ (i : ℕ). Adds before start after to (complaint b (known_in b ks k ws n r) (fault i x.at x.of))) number put)

    pub answers-fine : {m : ℕ} → c ≡ Ok m → PutsFile b at ks k ws n r m before start after to → AnswersWhole b before start after to
    answers-fine {m} is put = go read_in refl (subst (Says read_in) is (checks readable))
      where
        go : (y : Parsed (List Paragraph)) → read_in ≡ y → Says y (Ok m) → AnswersWhole b before start after to
        go (bad x) e s = absurd s
        go (parsed qs l) e s =
            answers-well lexicon_in qs (file_well b h.short lexicon_in (lexemes_from b at) h.same qs l (sym read_same ∙ e))
            (λ F ls t same these listings.
            let st = stands F.lexicon t.lexicon same in
            put.puts F.lexicon F.paragraphs ls readable st (due F.lexicon qs F.paragraphs l ls m st s e these t.paragraphs listings))

-- ---- where it was not

-- What is said of a fault goes by its reason's number.
pub told-number : (b : List ℕ) (at : ℕ) {before : List ℕ} {start : ℕ} {after : List ℕ} {to why i : ℕ} → i ≡ why →
    Adds before start after to (complaint b known_nothing (fault i at 0)) → Adds before start after to (complaint b known_nothing (fault why at 0))
told-number b at {before} {start} {after} {to} e put =
    subst (λ (j : ℕ). Adds before start after to (complaint b known_nothing (fault j at 0))) e put

module _ {b before : List ℕ} {start : ℕ} {after : List ℕ} {to : ℕ} where
  pub answers-long : most_text < length b → Adds before start after to (complaint b known_nothing (fault 24 65535 0)) →
      AnswersWhole b before start after to
  answers-long long put = answers-ill (fault 24 65535 0) known_nothing (file_long b long) put

  module _ {ks ws r : List ℕ} {a : LexiconAnswer} (short : length b ≤ most_text) (p : length b ≤ most_text → LexiconPromise b ks ws r a) where
    pub answers-lexicon : {x : Refusal} → a ≡ Err x → Adds before start after to (complaint b known_nothing (fault (number_of x.why) x.at 0)) →
        AnswersWhole b before start after to
    answers-lexicon {x} is put =
        let q = subst (LexiconPromise b ks ws r) is (p short) in
        answers-ill (fault (number_of x.why) x.at 0) known_nothing (file_lexicon b short (fault (number_of x.why) x.at 0) q.same) put

module _ {b ks ws r : List ℕ} {a : LexiconAnswer} (short : length b ≤ most_text) (p : length b ≤ most_text → LexiconPromise b ks ws r a) where
  pub lexicon-known : {x : Counts} → a ≡ Ok x → LexiconKnown b x.at ks x.kinds ws x.words r
  lexicon-known is =
      let q = subst (LexiconPromise b ks ws r) is (p short) in
      record { short = short; same = q.same; fits = q.fits }

-- ---- the page

abbrev OneOf : List ℕ → Type 0
OneOf b =
    ((F : File) × (ls : List (List Term)) × IsText b F × AreListings F.lexicon (phrases_of F.paragraphs) ls) ⊎
    ((x : Fault) × (T : Known) × (read_file b ≡ read_ill x T))

one_of : (b : List ℕ) → OneOf b
one_of b = go (read_file b) refl
  where
    go : (y : Read?) → read_file b ≡ y → OneOf b
    go (read_ill x T) e = inr (x, T, e)
    go (read_well a qs) e =
        let f = files_are_exact b a qs e in
        let F = f.0 in
        let l = listings_are F.lexicon f.1.lexicon (phrases_of F.paragraphs) (good_phrases F.lexicon F.paragraphs f.1.paragraphs) in
        inl (F, l.0, f.1, l.1)

tail_so : (X : Lexicon) (ps : List Phrase) (P Q : List ℕ → Type 0) → ((tail : List ℕ) → P tail → Q tail) → Tailed X ps P → Tailed X ps Q
tail_so X ps P Q f (tail, are, h) = (tail, are, f tail h)

-- What is put is the answer, where it has room.
held : {before after : List ℕ} {to : ℕ} (piece : List ℕ) → length after ≡ page_size → to ≤ page_size → Adds before 0 after to piece →
    take to after ≡ bounded piece
held {before} {after} {to} piece size few h = go (h.adds [] (holds_none before))
  where
    go : Holds after to piece → take to after ≡ bounded piece
    go (inl (f, e)) =
        e ∙ sym (cond_true (leb (length piece) page_size) piece too_long_text (le-leb (length piece) page_size (omega (arith, length-take-le to after f, ap length e))))
    go (inr (f, e)) = absurd (omega (arith, f))

unheld : {before after : List ℕ} {to : ℕ} (piece : List ℕ) → length after ≡ page_size → page_size < to → Adds before 0 after to piece →
    too_long_text ≡ bounded piece
unheld {before} {after} {to} piece size few h = go (h.adds [] (holds_none before))
  where
    go : Holds after to piece → too_long_text ≡ bounded piece
    go (inl (f, e)) = absurd (omega (arith, f))
    go (inr (f, e)) = sym (cond_false (leb (length piece) page_size) piece too_long_text (lt-leb (length piece) page_size (omega (arith, e))))

module _ {b before after : List ℕ} {to : ℕ} (size : length after ≡ page_size) (h : AnswersWhole b before 0 after to) where
  pub whole-fits : to ≤ page_size → DeskPromise b (take to after)
  whole-fits few = record {
    one = one_of b;
    answers = λ F ls t l. tail_so F.lexicon (phrases_of F.paragraphs) _ _ (λ tail. held (desk_text F ls tail) size few) (h.well F ls t l);
    complains = λ x T e. held (complaint b T x) size few (h.ill x T e);
  }

  pub whole_fit_inside : to ≤ page_size → to ≤ length after
  whole_fit_inside few = omega (arith, size)

  module _ {last : List ℕ} {end : ℕ} (put : Adds after 0 last end too_long_text) where
    put-there : (end ≤ length last) × (take end last ≡ too_long_text)
    put-there = go (put.adds [] (holds_none after))
      where
        go : Holds last end too_long_text → (end ≤ length last) × (take end last ≡ too_long_text)
        go (inl (f, e)) = (f, e)
        go (inr (f, e)) = let z : length too_long_text ≡ 93 = refl in absurd (omega (arith, e, put.same))

    pub whole-inside : end ≤ length last
    whole-inside = put-there.0

    pub whole-full : page_size < to → DeskPromise b (take end last)
    whole-full more = record {
      one = one_of b;
      answers = λ F ls t l. tail_so F.lexicon (phrases_of F.paragraphs) _ _ (λ tail adds. put-there.1 ∙ unheld (desk_text F ls tail) size more adds) (h.well F ls t l);
      complains = λ x T e. put-there.1 ∙ unheld (complaint b T x) size more (h.ill x T e);
    }
