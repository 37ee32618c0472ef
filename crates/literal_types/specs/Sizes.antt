-- The sizes of numbers as they are written.
use Rattle.std.specs.Prelude.{ℕ, ◌==◌, nat_lt, Ok}
use Rattle.expr_type.specs.Forms.{most_of_literal}
use Rattle.expr_type.specs.Literals.{decimal}
use Rattle.expr_type.specs.Names.{Source, position, word}
use Rattle.expr_type.specs.Typings.{Checked, refused}

-- from 1 to 128
abbrev pub number_size : Source → ℕ → Checked ℕ
number_size k at =
    let n = decimal (word k at) in
    refused (n == 0) (position k at) 411 (refused (nat_lt most_of_literal n) (position k at) 502 (Ok n))
