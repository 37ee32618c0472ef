-- The table of the source grammar is of the class that is read with one symbol of look-ahead.
use Rattle.std.proofs.Common.{◌≡◌, length, refl}
use Rattle.ll_engine.specs.Class.{IsFit}
use Rattle.ll_engine.proofs.class.Sets.{fits_is}
use Rattle.sv_tree.specs.Symbols.{mark_symbol, word_symbol}
use Rattle.sv_tree.specs.Table.{table}

pub table_fits : IsFit table
unfolding table mark_symbol word_symbol
table_fits = fits_is table 4 215 refl

pub table_length : length table ≡ 445
unfolding table
table_length = refl
