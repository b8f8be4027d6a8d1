-- Which history it is.
use Rattle.logbook.specs.Pages.{Book}
use Rattle.eco_histories.specs.declared.registry.HistoryMark.{HistoryMark}

-- which history the book is of
abbrev pub mark_of_book : Book → HistoryMark
mark_of_book b = record { number = b.number; log_name = b.log_name; cells_name = b.cells_name }
