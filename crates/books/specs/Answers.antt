-- Answers: document 01's and 02's number and values for each case of list_book.
--
--   input_refusal_of why     the refusal of list_book where reading the inputs refuses
--   turn_refusal_of why      the refusal where a turn does
--   book_list_numbers a      the reply of list_book
--
use Rattle.std.specs.Prelude.{[], ◌∷◌, Result, Ok, Err}
use Rattle.wire.specs.Reply.{Reply, accepted, refused}
use Rattle.signature.specs.Answers.{vocabulary_refused}
use Rattle.reader.specs.Answers.{book_refused}
use Rattle.reader.specs.declared.book.BookInputRefusal.{BookInputRefusal}
use Rattle.reader.specs.declared.book.BookInputRefusal.TheVariants as I
use Rattle.sizes.specs.declared.Size.{Size}
use Rattle.books.specs.declared.turns.TurnRefusal.{TurnRefusal}
use Rattle.books.specs.declared.turns.TurnRefusal.TheVariants as T
use Rattle.books.specs.declared.BookListRefusal.{BookListRefusal}
use Rattle.books.specs.declared.BookListRefusal.TheVariants.{Vocabulary, Book, TooLarge, NoRoom}

abbrev pub input_refusal_of : BookInputRefusal → BookListRefusal
input_refusal_of (I.Vocabulary why) = Vocabulary why
input_refusal_of (I.Book why) = Book why

abbrev pub turn_refusal_of : TurnRefusal → BookListRefusal
turn_refusal_of (T.NoRoom bytes) = NoRoom bytes
turn_refusal_of (T.Past i) = TooLarge i

-- Lines 20 and 26; the others are those of the inputs. The book is input 5, and the lent slice 3.
abbrev pub book_list_numbers : Result Size BookListRefusal → Reply
book_list_numbers (Ok size) = accepted (size.entries ∷ size.bytes ∷ [])
book_list_numbers (Err (Vocabulary why)) = vocabulary_refused why
book_list_numbers (Err (Book why)) = book_refused why
book_list_numbers (Err (TooLarge i)) = refused 26 5 i
book_list_numbers (Err (NoRoom bytes)) = refused 20 3 bytes
