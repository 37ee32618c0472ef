use Rattle.std.proofs.Common.{arith, subst}
use Rattle.eval_parts.specs.Steps.{IsStep}
use Rattle.eval_forms.specs.Callees.{formals_in}
use Rattle.target_lower.proofs.Parting as W
use Rattle.path_flatten.specs.Helping.{Grows}
use Rattle.target_lower.specs.Made.{PutsIndices}
use Rattle.target_lower.proofs.Stepping.{on-one, on-grown, puts-plain, puts-Signal, puts-Local, puts-Member, puts-Part, puts-Index, puts-Slide}
use Rattle.target_lower.proofs.indices.+put_indices.Goals as goal

pub put_indices-requires : goal.put_indices-requires
put_indices-requires t c =
    let h = rw c.in-Some-Member.field-0-is at c.in-Some-Member.ensures.step in
    let from = W.from-Member c.args.e.now c.in-Some-Member.from.now _ (formals_in c.args.functions.now) h c.requires.built c.requires.fits in
    (omega (arith, c.decreases, from.fewer), (c.requires.functions, (from.built, from.fits)))

pub put_indices-requires-in-Some-Part : goal.put_indices-requires-in-Some-Part
put_indices-requires-in-Some-Part t c =
    let h = rw c.in-Some-Part.field-0-is at c.in-Some-Part.ensures.step in
    let from = W.from-Part c.args.e.now c.in-Some-Part.from.now _ _ (formals_in c.args.functions.now) h c.requires.built c.requires.fits in
    (omega (arith, c.decreases, from.fewer), (c.requires.functions, (from.built, from.fits)))

pub put_index-requires-clause-built : goal.put_index-requires-clause-built
put_index-requires-clause-built t c =
    let h = rw c.in-Some-Index.field-0-is at c.in-Some-Index.ensures.step in
    (W.at-Index c.args.e.now c.in-Some-Index.from.now _ (formals_in c.args.functions.now) h c.requires.built c.requires.fits).built

pub put_index-requires-clause-fits : goal.put_index-requires-clause-fits
put_index-requires-clause-fits t c =
    let h = rw c.in-Some-Index.field-0-is at c.in-Some-Index.ensures.step in
    (W.at-Index c.args.e.now c.in-Some-Index.from.now _ (formals_in c.args.functions.now) h c.requires.built c.requires.fits).fits

pub put_index-requires-clause-short : goal.put_index-requires-clause-short
put_index-requires-clause-short t c =
    let h = rw c.in-Some-Index.field-0-is at c.in-Some-Index.ensures.step in
    (W.at-Index c.args.e.now c.in-Some-Index.from.now _ (formals_in c.args.functions.now) h c.requires.built c.requires.fits).short

pub put_indices-requires-in-Some-Index : goal.put_indices-requires-in-Some-Index
put_indices-requires-in-Some-Index t c =
    let h = rw c.in-Some-Index.field-0-is at c.in-Some-Index.ensures.step in
    let from = W.from-Index c.args.e.now c.in-Some-Index.from.now _ (formals_in c.args.functions.now) h c.requires.built c.requires.fits in
    (omega (arith, c.decreases, from.fewer), (c.requires.functions, (from.built, from.fits)))

pub put_index-requires-in-Some-Slide-clause-built : goal.put_index-requires-in-Some-Slide-clause-built
put_index-requires-in-Some-Slide-clause-built t c =
    let h = rw c.in-Some-Slide.field-0-is at c.in-Some-Slide.ensures.step in
    (W.at-Slide c.args.e.now c.in-Some-Slide.from.now _ _ _ (formals_in c.args.functions.now) h c.requires.built c.requires.fits).built

pub put_index-requires-in-Some-Slide-clause-fits : goal.put_index-requires-in-Some-Slide-clause-fits
put_index-requires-in-Some-Slide-clause-fits t c =
    let h = rw c.in-Some-Slide.field-0-is at c.in-Some-Slide.ensures.step in
    (W.at-Slide c.args.e.now c.in-Some-Slide.from.now _ _ _ (formals_in c.args.functions.now) h c.requires.built c.requires.fits).fits

pub put_index-requires-in-Some-Slide-clause-short : goal.put_index-requires-in-Some-Slide-clause-short
put_index-requires-in-Some-Slide-clause-short t c =
    let h = rw c.in-Some-Slide.field-0-is at c.in-Some-Slide.ensures.step in
    (W.at-Slide c.args.e.now c.in-Some-Slide.from.now _ _ _ (formals_in c.args.functions.now) h c.requires.built c.requires.fits).short

pub put_indices-requires-in-Some-Slide : goal.put_indices-requires-in-Some-Slide
put_indices-requires-in-Some-Slide t c =
    let h = rw c.in-Some-Slide.field-0-is at c.in-Some-Slide.ensures.step in
    let from = W.from-Slide c.args.e.now c.in-Some-Slide.from.now _ _ _ (formals_in c.args.functions.now) h c.requires.built c.requires.fits in
    (omega (arith, c.decreases, from.fewer), (c.requires.functions, (from.built, from.fits)))

pub returns-in-None-clause-puts : goal.returns-in-None-clause-puts
returns-in-None-clause-puts t c = puts-plain c.args.within c.args.names.now c.args.functions.now c.args.helpers.now c.args.e.now c.args.indices.now c.in-None.ensures.plain

pub returns-in-Some-Signal-clause-puts : goal.returns-in-Some-Signal-clause-puts
returns-in-Some-Signal-clause-puts t c =
    let h = rw c.in-Some-Signal.field-0-is at c.in-Some-Signal.ensures.step in
    puts-Signal c.args.within c.args.names.now c.args.functions.now c.args.helpers.now c.args.e.now _ c.args.indices.now h

pub returns-in-Some-Local-clause-puts : goal.returns-in-Some-Local-clause-puts
returns-in-Some-Local-clause-puts t c =
    let h = rw c.in-Some-Local.field-0-is at c.in-Some-Local.ensures.step in
    puts-Local c.args.within c.args.names.now c.args.functions.now c.args.helpers.now c.args.e.now _ c.args.indices.now h

pub returns-in-Some-Member-clause-puts : goal.returns-in-Some-Member-clause-puts
returns-in-Some-Member-clause-puts t c =
    let within = c.args.within in
    let names = c.args.names.now in
    let functions = c.args.functions.now in
    let e = c.args.e.now in
    let from = c.in-Some-Member.from.now in
    let hs = c.put_indices.new.helpers in
    let old = c.args.indices.now in
    let new = c.put_indices.new.indices in
    let is = subst (λ st. IsStep st c.args.e.now) c.in-Some-Member.field-0-is c.in-Some-Member.ensures.step in
    on-one (PutsIndices within names functions hs from old new) (PutsIndices within names functions hs e old new) c.put_indices.result c.put_indices.ensures.puts (λ h. puts-Member within names functions hs e from _ old new is h)

pub returns-in-Some-Part-clause-puts : goal.returns-in-Some-Part-clause-puts
returns-in-Some-Part-clause-puts t c =
    let within = c.args.within in
    let names = c.args.names.now in
    let functions = c.args.functions.now in
    let e = c.args.e.now in
    let from = c.in-Some-Part.from.now in
    let hs = c.put_indices-in-Some-Part.new.helpers in
    let old = c.args.indices.now in
    let new = c.put_indices-in-Some-Part.new.indices in
    let is = subst (λ st. IsStep st c.args.e.now) c.in-Some-Part.field-0-is c.in-Some-Part.ensures.step in
    on-one (PutsIndices within names functions hs from old new) (PutsIndices within names functions hs e old new) c.put_indices-in-Some-Part.result c.put_indices-in-Some-Part.ensures.puts
    (λ h. puts-Part within names functions hs e from _ _ old new is h)

pub returns-in_ok-put_index-in-Some-Index-clause-puts : goal.returns-in_ok-put_index-in-Some-Index-clause-puts
returns-in_ok-put_index-in-Some-Index-clause-puts t c =
    let within = c.args.within in
    let names = c.args.names.now in
    let functions = c.args.functions.now in
    let e = c.args.e.now in
    let from = c.in-Some-Index.from.now in
    let i = c.in-Some-Index.i.now in
    let b = c.ends_in_part-in_part.result in
    let mid = c.put_index.new.helpers in
    let hs = c.put_indices-in-Some-Index.new.helpers in
    let old = c.args.indices.now in
    let between = c.put_index.new.indices in
    let new = c.put_indices-in-Some-Index.new.indices in
    let is = subst (λ st. IsStep st c.args.e.now) c.in-Some-Index.field-0-is c.in-Some-Index.ensures.step in
    on-grown (Grows mid hs) (PutsIndices within names functions hs from between new) (PutsIndices within names functions hs e old new) c.put_indices-in-Some-Index.result c.put_indices-in-Some-Index.ensures.grows
    c.put_indices-in-Some-Index.ensures.puts
    (λ grows rest. puts-Index within names functions hs mid grows e from i b old between new c.ends_in_part-in_part.ensures c.in_ok-put_index-in-Some-Index.ensures.puts rest is)

pub returns-in_ok-put_index-in-Some-Slide-clause-puts : goal.returns-in_ok-put_index-in-Some-Slide-clause-puts
returns-in_ok-put_index-in-Some-Slide-clause-puts t c =
    let within = c.args.within in
    let names = c.args.names.now in
    let functions = c.args.functions.now in
    let e = c.args.e.now in
    let from = c.in-Some-Slide.from.now in
    let i = c.in-Some-Slide.base.now in
    let b = c.ends_in_part-in_part-in-Some-Slide.result in
    let mid = c.put_index-in-Some-Slide.new.helpers in
    let hs = c.put_indices-in-Some-Slide.new.helpers in
    let old = c.args.indices.now in
    let between = c.put_index-in-Some-Slide.new.indices in
    let new = c.put_indices-in-Some-Slide.new.indices in
    let is = subst (λ st. IsStep st c.args.e.now) c.in-Some-Slide.field-0-is c.in-Some-Slide.ensures.step in
    on-grown (Grows mid hs) (PutsIndices within names functions hs from between new) (PutsIndices within names functions hs e old new) c.put_indices-in-Some-Slide.result c.put_indices-in-Some-Slide.ensures.grows
    c.put_indices-in-Some-Slide.ensures.puts
    (λ grows rest. puts-Slide within names functions hs mid grows e from i b old between new c.ends_in_part-in_part-in-Some-Slide.ensures c.in_ok-put_index-in-Some-Slide.ensures.puts rest _ _ is)
