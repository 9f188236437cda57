-- Theorems: what is proved of texts in words, in one place; Laws says what each states.
--
--   spelling_is_exact           the tokens of a text are those that it spells
--   terms_are_spelled           a pattern or entry in words spells its tokens
--   phrases_are_spelled         .. and so does a good pattern
--   phrases_read                the tokens of a good pattern are read as that pattern
--   phrases_exact               what is read is a good pattern, and its tokens are those that were read
--   says-terms                  the walk over the bytes of a pattern or entry says it in words
--   says_phrases                .. of a good pattern
--   lexicons_read               the tokens of a good vocabulary are read as that vocabulary
--   lexicons_exact              what is read is a good vocabulary, and its tokens are those that were read
--   phrase_faults_are_first     a fault of a pattern is at the first byte at fault
--   blocks_are_answers          what is printed by bytes is what Answers says
--   blocks_spell_leftovers      what is printed for a pattern spells its leftovers and nothing else
--   entries_are_phrases         each leftover is a good pattern
--   files_are_read              a text of a file is accepted, and read as that file ..
--   files_are_exact             .. and what is read is a file that it is a text of
--   vocabularies_are_read       the vocabulary that is read is the one that the lexicon stands for
--   kinds_are_gathered          the names of kinds that are gathered are those of the kinds that a text names
--   lexicon_faults_are_first    a fault of a vocabulary is at the first byte at fault; a kind, word or place too many where it stands
--   lexicons_are_spelled        a vocabulary in words spells its tokens
--   lexicon_is_one              two good vocabularies with the same tokens are one
--   text_is_one                 a text is a text of one file alone
--   printed-alike               two good patterns that are printed alike are one
--   entries_printed_alike       .. and so are two leftovers of one pattern
--   names_are_no_words          no variable is a word, a kind or a label
--   together_spells_leftovers   what is printed of patterns together spells their leftovers and nothing else
--   notes_are_comments          what is said of kinds without complete situations spells nothing
--   desk_spells_leftovers       the whole answer spells the leftovers of each pattern, and then what its tail spells
--   questions-read              the tokens of a good question are read as that question
--   questions-exact             what is read is a good question, and its tokens are those that were read
--   question_faults_are_first   a fault of a question is at the first byte at fault
--   file_faults_are_first       a text is refused at the first byte at fault
--   verdicts_are_matches        the answer to a question is document 01's match
--   walks_are_comparisons       by tokens, a pattern and a situation are compared as by terms
--   situations-end              where the tokens of a situation end
--
use Rattle.texts.specs.Laws.{SpellingIsExact, TermsAreSpelled, PhrasesAreSpelled, PhrasesRead, PhrasesExact, SaysTerms, SaysPhrases, LexiconsRead, LexiconsExact, PhraseFaultsAreFirst, BlocksAreAnswers, BlocksSpellLeftovers, EntriesArePhrases, FilesAreRead, FilesAreExact, VocabulariesAreRead, KindsAreGathered, LexiconFaultsAreFirst, LexiconsAreSpelled, LexiconIsOne, TextIsOne, PrintedAlike, EntriesPrintedAlike, NamesAreNoWords, TogetherSpellsLeftovers, NotesAreComments, DeskSpellsLeftovers, QuestionsRead, QuestionsExact, QuestionFaultsAreFirst, FileFaultsAreFirst, VerdictsAreMatches, WalksAreComparisons, SituationsEnd}

pub spelling_is_exact : SpellingIsExact
spelling_is_exact = Rattle.texts.proofs.Spelling.spelling_is_exact

pub terms_are_spelled : TermsAreSpelled
terms_are_spelled = Rattle.texts.proofs.Spelt.terms_are_spelled

pub phrases_are_spelled : PhrasesAreSpelled
phrases_are_spelled = Rattle.texts.proofs.Spelt.phrases_are_spelled

pub phrases_read : PhrasesRead
phrases_read = Rattle.texts.proofs.PhrasesRead.phrases_read

pub phrases_exact : PhrasesExact
phrases_exact = Rattle.texts.proofs.PhrasesExact.phrases_exact

pub says-terms : SaysTerms
says-terms = Rattle.texts.proofs.Saying.says-terms

pub says_phrases : SaysPhrases
says_phrases = Rattle.texts.proofs.Saying.says_phrases

pub lexicons_read : LexiconsRead
lexicons_read = Rattle.texts.proofs.LexiconsRead.lexicons_read

pub lexicons_exact : LexiconsExact
lexicons_exact = Rattle.texts.proofs.LexiconsExact.lexicons_exact

pub phrase_faults_are_first : PhraseFaultsAreFirst
phrase_faults_are_first = Rattle.texts.proofs.FirstFaults.phrase_faults_are_first

pub blocks_are_answers : BlocksAreAnswers
blocks_are_answers = Rattle.texts.proofs.Blocks.blocks_are_answers

pub blocks_spell_leftovers : BlocksSpellLeftovers
blocks_spell_leftovers = Rattle.texts.proofs.BlocksSpelt.blocks_spell_leftovers

pub entries_are_phrases : EntriesArePhrases
entries_are_phrases = Rattle.texts.proofs.EntryPhrases.entries_are_phrases

pub files_are_read : FilesAreRead
files_are_read = Rattle.texts.proofs.FilesRead.files_are_read

pub files_are_exact : FilesAreExact
files_are_exact = Rattle.texts.proofs.FilesExact.files_are_exact

pub vocabularies_are_read : VocabulariesAreRead
vocabularies_are_read = Rattle.texts.proofs.FilesRead.vocabularies_are_read

pub kinds_are_gathered : KindsAreGathered
kinds_are_gathered = Rattle.texts.proofs.Gathering.kinds_are_gathered

pub lexicon_faults_are_first : LexiconFaultsAreFirst
lexicon_faults_are_first = Rattle.texts.proofs.LexiconFirst.lexicon_faults_are_first

pub lexicons_are_spelled : LexiconsAreSpelled
lexicons_are_spelled = Rattle.texts.proofs.LexiconsSpelt.lexicons_are_spelled

pub lexicon_is_one : LexiconIsOne
lexicon_is_one = Rattle.texts.proofs.Unique.lexicon_is_one

pub text_is_one : TextIsOne
text_is_one = Rattle.texts.proofs.Unique.text_is_one

pub printed-alike : PrintedAlike
printed-alike = Rattle.texts.proofs.Unique.printed-alike

pub entries_printed_alike : EntriesPrintedAlike
entries_printed_alike = Rattle.texts.proofs.Unique.entries_printed_alike

pub names_are_no_words : NamesAreNoWords
names_are_no_words = Rattle.texts.proofs.Unique.names_are_no_words

pub together_spells_leftovers : TogetherSpellsLeftovers
together_spells_leftovers = Rattle.texts.proofs.BlocksSpelt.together_spells_leftovers

pub notes_are_comments : NotesAreComments
notes_are_comments = Rattle.texts.proofs.BlocksSpelt.notes_are_comments

pub desk_spells_leftovers : DeskSpellsLeftovers
desk_spells_leftovers = Rattle.texts.proofs.DeskSpelt.desk_spells_leftovers

pub questions-read : QuestionsRead
questions-read = Rattle.texts.proofs.QuestionsRead.questions-read

pub questions-exact : QuestionsExact
questions-exact = Rattle.texts.proofs.QuestionsExact.questions-exact

pub question_faults_are_first : QuestionFaultsAreFirst
question_faults_are_first = Rattle.texts.proofs.QuestionFaults.question_faults_are_first

pub file_faults_are_first : FileFaultsAreFirst
file_faults_are_first = Rattle.texts.proofs.FileFaults.file_faults_are_first

pub verdicts_are_matches : VerdictsAreMatches
verdicts_are_matches = Rattle.texts.proofs.Verdicts.verdicts_are_matches

pub walks_are_comparisons : WalksAreComparisons
walks_are_comparisons = Rattle.texts.proofs.Walks.walks_are_comparisons

pub situations-end : SituationsEnd
situations-end = Rattle.texts.proofs.Walks.situations-end
