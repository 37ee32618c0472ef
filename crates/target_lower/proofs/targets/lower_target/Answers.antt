use Rattle.std.proofs.Common.{sym, subst}
use Rattle.target_lower.specs.Made.{PutsIndices}
use Rattle.target_lower.specs.Roots.{IsInImage}
use Rattle.target_lower.specs.Targets.{LowersTarget, HasShape}
use Rattle.target_lower.proofs.Making.{made-shaped, made-short}
use Rattle.target_lower.proofs.Standing.{lowers-target, has-shape}
use Rattle.target_lower.proofs.Stepping.{ok-one}
use Rattle.target_lower.proofs.targets.lower_target.Goals as goal

pub targets-requires-clause-shaped : goal.targets-requires-clause-shaped
targets-requires-clause-shaped c =
    let within = c.args.within in
    let names = c.args.names.now in
    let functions = c.args.functions.now in
    let hs = c.put_indices.new.helpers in
    let e = c.args.e.now in
    let ps = c.as_slice.result.now in
    let first = c.new-indices.result in
    let puts = subst (PutsIndices within names functions hs e first) (sym c.as_slice.ensures) c.in_ok-put_indices.ensures.puts in
    made-shaped within names functions hs e ps c.requires.typed (subst (λ l. PutsIndices within names functions hs e l ps) c.new-indices.ensures puts)

pub targets-requires-clause-short : goal.targets-requires-clause-short
targets-requires-clause-short c =
    let within = c.args.within in
    let names = c.args.names.now in
    let functions = c.args.functions.now in
    let hs = c.put_indices.new.helpers in
    let e = c.args.e.now in
    let ps = c.as_slice.result.now in
    let first = c.new-indices.result in
    let puts = subst (PutsIndices within names functions hs e first) (sym c.as_slice.ensures) c.in_ok-put_indices.ensures.puts in
    made-short within names functions hs e ps (subst (λ l. PutsIndices within names functions hs e l ps) c.new-indices.ensures puts)

pub returns-clause-lowers : goal.returns-clause-lowers
returns-clause-lowers c =
    let within = c.args.within in
    let names = c.args.names.now in
    let functions = c.args.functions.now in
    let hs = c.put_indices.new.helpers in
    let e = c.args.e.now in
    let ps = c.as_slice.result.now in
    let first = c.new-indices.result in
    let puts = subst (PutsIndices within names functions hs e first) (sym c.as_slice.ensures) c.in_ok-put_indices.ensures.puts in
    let own = subst (λ l. PutsIndices within names functions hs e l ps) c.new-indices.ensures puts in
    ok-one (IsInImage names e ps) (LowersTarget within names functions hs e) c.targets.result c.targets.ensures (λ x h. lowers-target within names functions hs e ps x h c.requires.typed c.requires.fits.typed own)

pub returns-clause-shape : goal.returns-clause-shape
returns-clause-shape c =
    let within = c.args.within in
    let names = c.args.names.now in
    let functions = c.args.functions.now in
    let hs = c.put_indices.new.helpers in
    let e = c.args.e.now in
    let ps = c.as_slice.result.now in
    let first = c.new-indices.result in
    let puts = subst (PutsIndices within names functions hs e first) (sym c.as_slice.ensures) c.in_ok-put_indices.ensures.puts in
    let own = subst (λ l. PutsIndices within names functions hs e l ps) c.new-indices.ensures puts in
    ok-one (IsInImage names e ps) (HasShape within names functions hs e) c.targets.result c.targets.ensures (λ x h. has-shape within names functions hs e ps x h own)
