-- Theorems: what is proved of the notions of specs/, in one place.
--
--   each_choice_has_a_filling     any choice of ground terms of the sorts due is a filling's
--   equal_where_they_agree        two fillings are equal exactly where they give the same values
--   one-filling                   no two fillings turn a pattern into the same ground term
--   matcher_is_exact              the matcher finds a filling exactly where there is one, and that one
--   sorts_add_nothing             between two terms of one sort, matching is being an instance
--   matching_is_fitting           for a ground term of the sort, matching by a substitution is the same as having a filling
--   replacing_is_substitution     names are replaced as a substitution is applied
--   replacing_is_filling          .. and, where no place is open, as a filling is carried out
--   fitted_is_exact               what is computed of a linear term tells whether some ground term fits it
--   listing_is_one                what is computed is the listing, and there is no other
--   entries_are_linear_patterns   each entry of a listing is a linear pattern of the pattern's sort
--   partition                     every ground term fits exactly one of a linear pattern and its entries, by exactly one filling
--   strike_out                    each entry has a ground term that fits it and nothing else
--   listing-represents            the entries represent the non-instances of a linear pattern
--   earlier_listings              over inhabited sorts the listing is document 01's
--   fruitful-listing              where every symbol of a pattern is productive its listing is document 01's over the settled signature
--   disjoint_shares_nothing       linear terms that ground terms fit share none exactly where they are disjoint
--   one_pattern_book              the entries of a book of one pattern are its own, with their names opened
--   book_listing_is_one           what is computed is the listing of a book, and there is no other
--   book_entries_are_patterns     each entry of a book is a pattern of the sort, without names, that some ground term fits
--   book_partition                every ground term fits some pattern of a book or, by one filling, exactly one entry, not both
--   book_strike_out               each entry of a book has a ground term that fits it, no pattern and no other entry
--   book_represents               the entries of a book represent what its patterns leave
--   earlier_books                 over inhabited sorts the listing of a book is what it was before document 02 (iv)
--   fruitful_turn, barren_turn    what is left behind a pattern whose symbols are all productive, and behind any other
--   emptiness_is_exact            the search finds which sorts have a ground term, and a sort without one where there is one
--
use Rattle.terms.specs.Laws.{EachChoiceHasAFilling, EqualWhereTheyAgree, OneFilling, SortsAddNothing, MatchingIsFitting, ReplacingIsSubstitution, ReplacingIsFilling, FittedIsExact, ListingIsOne, Partition, StrikeOut, EntriesAreLinearPatterns, ListingRepresents, EarlierListings, FruitfulListing, DisjointSharesNothing, OnePatternBook, BookListingIsOne, BookPartition, BookStrikeOut, BookEntriesArePatterns, BookRepresents, EarlierBooks, FruitfulTurn, BarrenTurn}
use Rattle.terms.specs.Matcher.{MatcherIsExact}
use Rattle.terms.specs.Emptiness.{EmptinessIsExact}

pub each_choice_has_a_filling : EachChoiceHasAFilling
each_choice_has_a_filling = Rattle.terms.proofs.Filling.each_choice_has_a_filling

pub equal_where_they_agree : EqualWhereTheyAgree
equal_where_they_agree = Rattle.terms.proofs.Filling.equal_where_they_agree

pub one-filling : OneFilling
one-filling = Rattle.terms.proofs.Filling.one-filling

pub matcher_is_exact : MatcherIsExact
matcher_is_exact = Rattle.terms.proofs.Matcher.matcher_is_exact

pub sorts_add_nothing : SortsAddNothing
sorts_add_nothing = Rattle.terms.proofs.Substitution.sorts_add_nothing

pub matching_is_fitting : MatchingIsFitting
matching_is_fitting = Rattle.terms.proofs.Substitution.matching_is_fitting

pub replacing_is_substitution : ReplacingIsSubstitution
replacing_is_substitution = Rattle.terms.proofs.Replacing.replacing_is_substitution

pub replacing_is_filling : ReplacingIsFilling
replacing_is_filling = Rattle.terms.proofs.Replacing.replacing_is_filling

pub fitted_is_exact : FittedIsExact
fitted_is_exact = Rattle.terms.proofs.Fitted.fitted_is_exact

pub listing_is_one : ListingIsOne
listing_is_one = Rattle.terms.proofs.Listing.listing_is_one

pub entries_are_linear_patterns : EntriesAreLinearPatterns
entries_are_linear_patterns = Rattle.terms.proofs.Listing.entries_are_linear_patterns

pub partition : Partition
partition = Rattle.terms.proofs.Partition.partition

pub strike_out : StrikeOut
strike_out = Rattle.terms.proofs.StrikeOut.strike_out

pub listing-represents : ListingRepresents
listing-represents = Rattle.terms.proofs.Represents.listing-represents

pub earlier_listings : EarlierListings
earlier_listings = Rattle.terms.proofs.Listing.earlier_listings

pub fruitful-listing : FruitfulListing
fruitful-listing = Rattle.terms.proofs.Settled.fruitful-listing

pub disjoint_shares_nothing : DisjointSharesNothing
disjoint_shares_nothing = Rattle.terms.proofs.Sharing.disjoint_shares_nothing

pub one_pattern_book : OnePatternBook
one_pattern_book = Rattle.terms.proofs.BookListing.one_pattern_book

pub book_listing_is_one : BookListingIsOne
book_listing_is_one = Rattle.terms.proofs.BookListing.book_listing_is_one

pub book_entries_are_patterns : BookEntriesArePatterns
book_entries_are_patterns = Rattle.terms.proofs.Book.book_entries_are_patterns

pub book_partition : BookPartition
book_partition = Rattle.terms.proofs.Book.book_partition

pub book_strike_out : BookStrikeOut
book_strike_out = Rattle.terms.proofs.Book.book_strike_out

pub book_represents : BookRepresents
book_represents = Rattle.terms.proofs.BookRepresents.book_represents

pub earlier_books : EarlierBooks
earlier_books = Rattle.terms.proofs.EarlierBooks.earlier_books

pub fruitful_turn : FruitfulTurn
fruitful_turn = Rattle.terms.proofs.BookTurns.fruitful_turn

pub barren_turn : BarrenTurn
barren_turn = Rattle.terms.proofs.BookTurns.barren_turn

pub emptiness_is_exact : EmptinessIsExact
emptiness_is_exact = Rattle.terms.proofs.Inhabited.emptiness_is_exact
