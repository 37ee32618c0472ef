-- The functions of a module as they are called (IEEE 1364-2005 clause 10.4).
use Rattle.std.specs.Prelude.{ℕ, zero, suc, List, [], ◌∷◌, ◌++◌, length, map, filter, replicate, Option, Some, None, cond}
use Rattle.std.specs.Str.{bytes_eq}
use Rattle.b4_core.specs.declared.bit.Bit4.{Bit4}
use Rattle.b4_core.specs.declared.bit.Bit4.TheVariants.{X}
use Rattle.row_machine.specs.Valuation.{Valuation, Changes, put}
use Rattle.row_machine.specs.Places.{vector_at}
use Rattle.row_machine.specs.Steps.{unchanged, then_changes}
use Rattle.picks.specs.Windows.{whole, written}
use Rattle.v_tree.specs.Names.{Name}
use Rattle.v_tree.specs.declared.items.VFunction.{VFunction}
use Rattle.v_meaning.specs.Scopes.{Named, Scope, Callee, absent, all_bits, is_signal, local_number, bits_of_range}
use Rattle.v_meaning.specs.Runs.{begun, cleared, assign_now}
use Rattle.v_meaning.specs.Statements.{Doing, declared, doing}

-- the result, which has the function's name, and behind it the inputs and the variables
abbrev pub result_of : VFunction → Named
result_of f = record { name = f.name; number = local_number 0; width = bits_of_range f.range; words = None }

abbrev pub inputs_of : VFunction → List Named
inputs_of f = declared 1 f.inputs

abbrev pub locals_of : VFunction → List Named
locals_of f = result_of f ∷ inputs_of f ++ declared (suc (length f.inputs)) f.locals

abbrev pub scope_in : VFunction → Scope → Scope
scope_in f sc = record sc { names = locals_of f ++ sc.names; next = length (locals_of f) }

-- the inputs hold what is passed to them
abbrev pub bound : List Named → List (List Bit4) → Changes
bound [] args = unchanged
bound (n ∷ ns) [] = unchanged
bound (n ∷ ns) (a ∷ rest) = then_changes (written n.number (whole (all_bits n)) a) (bound ns rest)

-- What a call gives, by what the body does. All other locals hold x when the body begins; what it writes to signals isn't seen.
abbrev pub called : VFunction → Doing → Scope → Valuation → List (List Bit4) → List Bit4
called f body sc v args =
    let s = body.run (scope_in f sc) v (assign_now (bound (inputs_of f) args) (assign_now (cleared (locals_of f)) begun)) in
    vector_at (put s.written v) (local_number 0) (bits_of_range f.range)

abbrev pub callee_of : Scope → VFunction → Callee
callee_of sc f = record {
  width = bits_of_range f.range;
  inputs = map (λ (n : Named). n.width) (inputs_of f);
  run = called f (doing f.body) sc;
  reads = filter (λ u. is_signal u.number) ((doing f.body).reads (scope_in f sc));
}

-- where calls go no deeper
abbrev pub not_run : VFunction → Callee
not_run f = record {
  width = bits_of_range f.range;
  inputs = map (λ (n : Named). n.width) (inputs_of f);
  run = λ v args. replicate (bits_of_range f.range) X;
  reads = [];
}

abbrev pub find : List VFunction → Name → Option VFunction
find [] name = None
find (f ∷ fs) name = cond (bytes_eq f.name name) (Some f) (find fs name)

abbrev pub callee_or_absent : (VFunction → Callee) → Option VFunction → Callee
callee_or_absent c None = absent
callee_or_absent c (Some f) = c f

-- the functions of a module with these signals, with calls that go so deep
unfoldable pub callees_within : ℕ → List Named → List VFunction → Name → Callee
callees_within zero names fs name = callee_or_absent not_run (find fs name)
callees_within (suc depth) names fs name =
    callee_or_absent (callee_of (record { names = names; next = 0; callee = callees_within depth names fs })) (find fs name)

-- Functions aren't recursive, so calls go no deeper than there are functions.
abbrev pub callees : List Named → List VFunction → Name → Callee
callees names fs = callees_within (length fs) names fs
