-- Says: what the functions that write a term promise each other; no public contract cites it.
--
--   Says said before after left                 the text of `said` is put on the page, and what it leaves of the bytes is left
--   separator i                                 what stands before the place of number i
--   say_place sayer m l                         one place: the term at the front of l where the lowest bit of m stands, or an open place
--   kind_text text ks s                         what is written behind what is of kind s
--
use Rattle.std.specs.Prelude.{◌≡◌, cond, List, ◌++◌, map, ℕ, ◌%◌, eqb}
use Rattle.wire.specs.Text.{ascii}
use Rattle.texts.specs.Lexemes.{token_at}
use Rattle.texts.specs.Names.{opened, mark, opening, colon, name_at}
use Rattle.texts.specs.Saying.{Said, comma_text}
use Rattle.pages.specs.declared.Page.{Page}
use Rattle.pages.specs.Pages.{Puts}

pub record Says (said : Said) (before after : Page) (left : List ℕ) : Type 0 where
  pub text : Puts before after said.text
  pub rest : said.rest ≡ left

abbrev pub separator : ℕ → List ℕ
separator i = cond (eqb i 0) (mark opening) comma_text

abbrev pub say_place : (List ℕ → Said) → ℕ → List ℕ → Said
say_place sayer m l = cond (eqb (m % 2) 1) (sayer l) (record { text = opened; rest = l })

abbrev pub kind_text : List ℕ → List ℕ → ℕ → List ℕ
kind_text text ks s = mark colon ++ (ascii " " ++ name_at (map (token_at text) ks) s)
