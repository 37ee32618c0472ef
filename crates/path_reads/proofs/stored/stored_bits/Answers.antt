use Rattle.std.proofs.Common.{refl}
use Rattle.path_reads.proofs.Keeping.{few-marks, kept-bits, kept-names}
use Rattle.path_reads.proofs.stored.stored_bits.Goals as goal

pub as_marked-requires : goal.as_marked-requires
as_marked-requires c = record { narrow = few-marks c.args.t.now c.marks_of.result c.in_ok-of.marks c.as_slice.result.now c.in_ok-of.ensures.1 c.as_slice.ensures c.marks_of.ensures c.requires.narrow }

pub returns-clause-stores : goal.returns-clause-stores
returns-clause-stores c =
    kept-bits c.args.t.now c.args.of c.in_ok-of.of _ c.marks_of.result c.in_ok-of.marks c.as_slice.result.now c.as_marked.new.helpers c.as_marked.result refl c.in_ok-of.ensures.0 c.in_ok-of.ensures.1 c.as_slice.ensures
    c.marks_of.ensures c.as_marked.ensures.stores

pub returns-clause-names : goal.returns-clause-names
returns-clause-names c = kept-names c.args.of c.in_ok-of.of _ c.as_marked.result refl c.in_ok-of.ensures.0 c.as_marked.ensures.names
