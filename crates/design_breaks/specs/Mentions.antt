-- What an expression mentions: the functions that it calls, and the signals that stand in it otherwise than under an index.
use Rattle.std.specs.Prelude.{ℕ, Bool, true, false, cond, map, List, [], ◌∷◌, ◌++◌, flat_map}
use Rattle.sv_types.specs.declared.expression.Expr.{Expr, Expr-F, fold-Expr}
use Rattle.sv_types.specs.declared.expression.Form.{Form-F}
use Rattle.sv_types.specs.declared.expression.Choice.{Choice-F}

pub record Mentions : Type 0 where
  -- whether it is a signal as a whole
  pub is_signal : Bool
  pub whole : List ℕ
  pub calls : List ℕ

abbrev pub nothing : Mentions
nothing = record { is_signal = false; whole = []; calls = [] }

abbrev pub signal : ℕ → Mentions
signal n = record { is_signal = true; whole = n ∷ []; calls = [] }

abbrev pub within : Mentions → Mentions
within m = record m { is_signal = false }

abbrev pub both : Mentions → Mentions → Mentions
both a b = record { is_signal = false; whole = a.whole ++ b.whole; calls = a.calls ++ b.calls }

abbrev pub all : List Mentions → Mentions
all ms = record { is_signal = false; whole = flat_map (λ (m : Mentions). m.whole) ms; calls = flat_map (λ (m : Mentions). m.calls) ms }

-- an index selects an element of what it stands on
abbrev pub indexed : Mentions → Mentions → Mentions
indexed from index = record { is_signal = false; whole = cond from.is_signal [] from.whole ++ index.whole; calls = from.calls ++ index.calls }

abbrev pub calling : ℕ → List Mentions → Mentions
calling f ms = record (all ms) { calls = f ∷ (all ms).calls }

abbrev pub choice_step : Choice-F Mentions Mentions Mentions → Mentions
choice_step (Choice-F.Value m) = within m
choice_step (Choice-F.Range low high) = both low high

abbrev pub form_step : Form-F Mentions Mentions Mentions → Mentions
form_step (Form-F.Literal v goes_on) = nothing
form_step (Form-F.Fill b) = nothing
form_step (Form-F.Constant v) = nothing
form_step (Form-F.Signal n) = signal n
form_step (Form-F.Local n) = nothing
form_step (Form-F.Member from k) = within from
form_step (Form-F.Index from i) = indexed from i
form_step (Form-F.Part from left right) = within from
form_step (Form-F.Slide from i n up) = both from i
form_step (Form-F.Unary op m) = within m
form_step (Form-F.Reduce op m) = within m
form_step (Form-F.Negate m) = within m
form_step (Form-F.Binary op l r) = both l r
form_step (Form-F.Shift op l r) = both l r
form_step (Form-F.Power l r) = both l r
form_step (Form-F.Order op l r) = both l r
form_step (Form-F.Equal op negated l r) = both l r
form_step (Form-F.Both l r) = both l r
form_step (Form-F.Either l r) = both l r
form_step (Form-F.Choose on l r) = both on (both l r)
form_step (Form-F.Concat ms) = all ms
form_step (Form-F.Repeat n ms) = all ms
form_step (Form-F.Inside m cs) = both m (all cs)
form_step (Form-F.Cast m) = within m
form_step (Form-F.Clog2 m) = within m
form_step (Form-F.Pattern ms) = all ms
form_step (Form-F.Call f ms) = calling f ms
form_step (Form-F.Stream reversed n ms) = all ms

abbrev pub expr_step : Expr-F Mentions Mentions Mentions → Mentions
expr_step e = e.form

abbrev pub mentions : Expr → Mentions
mentions = fold-Expr Mentions Mentions Mentions choice_step form_step expr_step

abbrev pub all_mentions : List Expr → Mentions
all_mentions es = all (map mentions es)
