-- The texts of a frame as the code has them: that of the frame, and those of functions and tasks.
use Rattle.std.specs.Prelude.{ℕ, ◌-◌, Bool, false, cond, List, [], ◌++◌, map, Option}
use Rattle.std.specs.Option.{option_copied}
use Rattle.sv_tree.specs.declared.units.SourceTree.{SourceTree}
use Rattle.sv_types.specs.declared.frame.Frame.{Frame}
use Rattle.sv_types.specs.declared.frame.ParamType.{ParamType}
use Rattle.sv_types.specs.declared.frame.ParamValue.{ParamValue}
use Rattle.sv_types.specs.declared.frame.SignalId.{SignalId}
use Rattle.sv_types.specs.declared.types.SvType.{SvType}
use Rattle.package_scope.specs.declared.table.Table.{Table}
use Rattle.package_scope.specs.Rules.{is_interface_holder}
use Rattle.expr_type.specs.Functions.{routine}
use Rattle.expr_type.specs.Names.{Context, LocalId, Thing, Interface, Other, or_thing, signal_in}
use Rattle.frame_texts.specs.Frames.{without_routines, without_signals, declared_before, hidden_rule, how, key_rule}
use Rattle.frame_things.specs.Finding.{local_id}
use Rattle.typing_names.specs.declared.text.FrameText.{FrameText}
use Rattle.typing_names.specs.declared.text.Start.{Start}
use Rattle.typing_names.specs.declared.text.Start.TheVariants as S

-- the local with the number 0 is this declaration
abbrev pub base_of : SourceTree → Table → ℕ → Start → ℕ
base_of tree t at S.Items = declared_before tree t at - 1
base_of tree t at (S.Routine n) = n

-- functions and tasks name nothing of a module: keys of patterns that do are no constants there
abbrev pub signals_in : Start → List SignalId → List SignalId
signals_in S.Items ss = ss
signals_in (S.Routine n) ss = []

abbrev pub key_rule_in : SourceTree → Table → Start → ℕ → Option ℕ
key_rule_in tree t S.Items = key_rule tree t
key_rule_in tree t (S.Routine n) = hidden_rule tree t

abbrev pub interfaces_in : Start → (ℕ → Bool) → ℕ → Bool
interfaces_in S.Items p = p
interfaces_in (S.Routine n) p = λ m. false

-- what a declaration of a module stands for that is no local, value or type
abbrev pub module_thing : SourceTree → Table → Frame → ℕ → Thing
module_thing tree t f n = or_thing (signal_in n f.signals) (cond (how tree t (is_interface_holder tree.tokens t) n) (Interface n) (Other n))

-- a text of a frame with these lists, where functions are called so deep
abbrev pub text_context : SourceTree → Table → Frame → ℕ → ℕ → Start → List ParamValue → List ParamType → List LocalId → Option SvType → Context
text_context tree t f at depth start values types locals result =
    let k = without_routines tree t f at in
    record k {
      values = values;
      types = types;
      signals = signals_in start k.signals;
      locals = locals;
      is_interface = interfaces_in start k.is_interface;
      key_rule = key_rule_in tree t start;
      result = result;
      base = base_of tree t at start;
      routine = routine depth (without_signals tree t k);
    }

-- What a text of a frame is typed in: what was met in it stands before the frame's lists. Its functions are those of the frame's
-- text, called so deep.
abbrev pub context_of : FrameText → Context
context_of x =
    let tree = x.source.now.tree.now in
    let t = x.source.now.names.now in
    let f = x.things.base.frame.now in
    text_context tree t f x.at x.depth x.start (x.things.values ++ f.values) (x.things.types ++ f.types) (map local_id x.things.locals) (option_copied x.result)
