-- The evaluator's command, as `clap` reads it.
use Rattle.std.specs.Prelude.{true, List, [], ◌∷◌, Some, codes}
use Rattle.clap.specs.Lexer.{usize_max}
use Rattle.clap.specs.Words.{Rule, App, new_rule}
use Rattle.clap.specs.Simple.{new_shape}

abbrev pub lang_rule : Rule
lang_rule = record (new_rule (codes "lang")) { long = Some (codes "lang"); required = true }

abbrev pub top_rule : Rule
top_rule = record (new_rule (codes "top")) { long = Some (codes "top"); required = true }

abbrev pub rows_rule : Rule
rows_rule = record (new_rule (codes "ROWS")) { required = true }

abbrev pub files_rule : Rule
files_rule = record (new_rule (codes "FILE")) { range = Some (record { start_inclusive = 1; end_inclusive = usize_max }); required = true }

abbrev pub eval_app : App
eval_app = record {
  top = record (new_shape (codes "sv2v_eval")) {
    rules = lang_rule ∷ top_rule ∷ rows_rule ∷ files_rule ∷ [];
    no_binary_name = true;
    disable_help_flag = true;
    disable_version_flag = true;
  };
  subs = [];
}
