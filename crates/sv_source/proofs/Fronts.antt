-- What fits into a sink's room is a front of the piece.
use Rattle.std.proofs.Common.{◌≡◌, ℕ, ◌<◌, List, ◌++◌, length, take, drop, ap, Some, arith}
use Rattle.std.proofs.lemmas.Grind.{common_steps}
use Rattle.sv_source.specs.declared.sink.Put.{Put}
use Rattle.sv_source.specs.declared.sink.Put.TheVariants.{Ok, Failed}
use Rattle.sv_source.specs.Putting.{GainsFront, Gains}
use Rattle.sv_source.specs.Memory.{TakesWhatFits}

pub front_taken : (before after piece : List ℕ) (n : ℕ) → after ≡ before ++ take n piece → GainsFront (Some before) (Some after) piece
front_taken before after piece n e = record {
  front = take n piece;
  rest = drop n piece;
  whole = grind (arith, common_steps);
  gained = ap Some e;
}

pub fits_gains : (before after : List ℕ) (spare left : ℕ) (piece : List ℕ) (result : Put) → TakesWhatFits before after spare left piece result → Gains (Some before) (Some after) piece result
fits_gains before after spare left piece Failed t = front_taken before after piece spare t.bytes
fits_gains before after spare left piece Ok t =
    let fits : spare < length piece → ⊥ = λ cut. let e : Ok ≡ Failed = t.cut cut in cc in
    let all : take spare piece ≡ piece = grind (arith, common_steps) in
    ap Some (rw all at t.bytes)
