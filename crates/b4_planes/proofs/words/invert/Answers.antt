use Rattle.std.proofs.Common.{◌≡◌, ◌*◌, ◌/◌, ◌%◌, ◌^◌, refl, arith}
use Rattle.std.proofs.lemmas.Nat.{one_shl}
use Rattle.b4_planes.proofs.Inverted.{inverted_whole, inverted_last}
use Rattle.b4_planes.proofs.words.invert.Goals as goal

pub returns-then-len-gt0-clause-bits : goal.returns-then-len-gt0-clause-bits
returns-then-len-gt0-clause-bits c =
    let mask : (1 * 2 ^ (c.args.len % 64)) % 2 ^ 64 ≡ 2 ^ (c.args.len % 64) = one_shl (c.args.len % 64) 64 (omega arith) in
    inverted_last c.args.len (c.args.len / 64) (c.args.len % 64) _ ((1 * 2 ^ (c.args.len % 64)) % 2 ^ 64) c.args.values.now c.args.unknowns.now _ (omega arith) (omega arith)
    (omega (arith, c.requires.values)) (omega (arith, c.requires.unknowns)) c.sweep_value.ensures mask refl

pub returns-else-len-gt0-clause-bits : goal.returns-else-len-gt0-clause-bits
returns-else-len-gt0-clause-bits c =
    inverted_whole c.args.len (c.args.len / 64) c.args.values.now c.args.unknowns.now _ (omega arith)
    (omega (arith, c.requires.values)) (omega (arith, c.requires.unknowns)) c.sweep_value.ensures
