-- What is found in the declaration of a signal.
use Rattle.std.specs.Prelude.{ℕ, suc, ◌+◌, ◌-◌, ◌==◌, min, nat_lt, Bool, true, false, not, List, [], ◌∷◌, length, Option, Some, None, if◌then◌else◌}
use Rattle.b4_core.specs.declared.bit.Bit4.{Bit4}
use Rattle.v_tree.specs.Scopes.{bits_of}
use Rattle.v_tree.specs.Rules.{most_bits}
use Rattle.v_tree.specs.declared.items.VInit.{VInit}
use Rattle.v_tree.specs.declared.items.VInit.TheVariants as V
use Rattle.v_tree.specs.declared.items.VRegRest.{VRegRest}
use Rattle.v_tree.specs.declared.items.VRegRest.TheVariants as R
use Rattle.v_tree.specs.declared.items.VSignal.{VSignal}
use Rattle.v_tree.specs.declared.items.VSignal.TheVariants.{Input, Output, OutputReg, Wire, Reg}
use Rattle.v_expr_rules.specs.Seen.{last_token, plus, earlier, mark}

abbrev pub range_tokens : Option ℕ → ℕ
range_tokens None = 0
range_tokens (Some left) = 5

abbrev pub token_count : ℕ → ℕ
token_count n = min n last_token

abbrev pub listed : ℕ → ℕ
listed n = if n == 0 then 0 else plus (token_count (n - 1)) (token_count n)

abbrev pub init_tokens : VInit → ℕ
init_tokens (V.Number bits) = 2
init_tokens (V.Concat pieces) = plus 3 (listed (length pieces))

abbrev pub optional_tokens : Option VInit → ℕ
optional_tokens None = 0
optional_tokens (Some v) = init_tokens v

abbrev pub rest_tokens : Option VRegRest → ℕ
rest_tokens None = 0
rest_tokens (Some (R.Memory left)) = 5
rest_tokens (Some (R.Initial v)) = init_tokens v

abbrev pub signal_tokens : VSignal → ℕ
signal_tokens (Input range name) = 3 + range_tokens range
signal_tokens (Output range name) = 3 + range_tokens range
signal_tokens (OutputReg range name initial) = plus (4 + range_tokens range) (optional_tokens initial)
signal_tokens (Wire range name) = 3 + range_tokens range
signal_tokens (Reg range name rest) = plus (3 + range_tokens range) (rest_tokens rest)

-- numbers have so many bits
abbrev pub fills : List (List Bit4) → ℕ → Bool
fills [] bits = bits == 0
fills (p ∷ ps) bits = if nat_lt bits (length p) then false else fills ps (bits - length p)

abbrev pub init_fills : VInit → ℕ → Bool
init_fills (V.Number number) bits = length number == bits
init_fills (V.Concat pieces) bits = fills pieces bits

abbrev pub init_first : Option ℕ → VInit → ℕ → Option ℕ
init_first range v token = mark (not (init_fills v (bits_of range))) (plus token 2)

abbrev pub optional_first : Option ℕ → Option VInit → ℕ → Option ℕ
optional_first range None token = None
optional_first range (Some v) token = init_first range v token

abbrev pub width_first : Option ℕ → ℕ → Option ℕ
width_first range token = mark (nat_lt most_bits (bits_of range)) token

abbrev pub rest_first : Option ℕ → Option VRegRest → ℕ → Option ℕ
rest_first range None token = None
rest_first range (Some (R.Memory left)) token = mark (nat_lt most_bits (suc left)) token
rest_first range (Some (R.Initial v)) token = init_first range v token

abbrev pub signal_first : VSignal → ℕ → Option ℕ
signal_first (Input range name) at = width_first range (plus at (1 + range_tokens range))
signal_first (Output range name) at = width_first range (plus at (1 + range_tokens range))
signal_first (OutputReg range name initial) at =
    let token = plus at (2 + range_tokens range) in earlier (width_first range token) (optional_first range initial token)
signal_first (Wire range name) at = width_first range (plus at (1 + range_tokens range))
signal_first (Reg range name rest) at = let token = plus at (1 + range_tokens range) in earlier (width_first range token) (rest_first range rest token)
