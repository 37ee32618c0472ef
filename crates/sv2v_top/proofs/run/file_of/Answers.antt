use Rattle.std.proofs.Common.{◌≡◌, ℕ, List, [], Option, None, sym, ap, ◌∙◌}
use Rattle.std.specs.List.{slice_get}
use Rattle.std.specs.Option.{unwrap_or}
use Rattle.std.proofs.lemmas.Option.{unwrap_or-slice_get}
use Rattle.sv2v_top.proofs.run.file_of.Goals as goal

pub returns-in-None : goal.returns-in-None
returns-in-None c =
    let none : slice_get c.args.names.now c.args.place.file ≡ None = ap (λ names. slice_get names c.args.place.file) (sym c.as_slice.ensures) ∙ sym c.in-None.ensures in
    c.new.ensures ∙ sym (sym (unwrap_or-slice_get c.args.names.now c.args.place.file []) ∙ ap (λ (o : Option (List ℕ)). unwrap_or o []) none)
