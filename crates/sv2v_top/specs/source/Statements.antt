-- What the statements of a source text name and hold, before anything is known of the names.
use Rattle.std.specs.Prelude.{ℕ, suc, ◌+◌, max, List, [], ◌∷◌, ◌++◌, filter, Option, Some, None}
use Rattle.sv_source.specs.declared.token.Spot.{Spot}
use Rattle.built_forms.specs.declared.forms.Primary.{Primary}
use Rattle.built_forms.specs.declared.forms.Primary.TheVariants.{Name}
use Rattle.built_forms.specs.declared.forms.Primary.TheVariants as P
use Rattle.sv2v_top.specs.declared.uses.Use.{Use}
use Rattle.sv2v_top.specs.declared.uses.Literal.{Literal}
use Rattle.sv2v_top.specs.declared.uses.Role.{Role}
use Rattle.sv2v_top.specs.declared.uses.Role.TheVariants.{Target, Read, Clock}
use Rattle.built_forms.specs.declared.forms.Expr.{Expr}
use Rattle.built_forms.specs.declared.forms.Expr.TheVariants.{Single, Binary}
use Rattle.built_forms.specs.declared.forms.Assign.{Assign}
use Rattle.built_forms.specs.declared.forms.Stmt.{Stmt, Stmt-F, fold-Stmt}
use Rattle.built_forms.specs.declared.forms.Item.{Item}
use Rattle.built_forms.specs.declared.forms.Item.TheVariants as I
use Rattle.v_tree.specs.Names.{among}

abbrev pub word_of : Spot → List ℕ
word_of s = s.word

-- a use of a name
abbrev pub used : Role → Spot → Use
used role name = record { role = role; name = name }

-- the names that an expression reads, in the order of the text
abbrev pub primary_uses : Primary → List Use
primary_uses (Name name) = used Read name ∷ []
primary_uses (P.Literal size digits) = []

abbrev pub expr_uses : Expr → List Use
expr_uses (Single a) = primary_uses a.primary
expr_uses (Binary op a b) = primary_uses a.primary ++ primary_uses b.primary

-- and its literals
abbrev pub primary_literals : Primary → List Literal
primary_literals (Name name) = []
primary_literals (P.Literal size digits) = record { size = size; digits = digits } ∷ []

abbrev pub expr_literals : Expr → List Literal
expr_literals (Single a) = primary_literals a.primary
expr_literals (Binary op a b) = primary_literals a.primary ++ primary_literals b.primary

-- What a statement has in it: the names that it uses and its literals, in the order of the text; the names that it writes
-- on every path, an `if` going either way; its expressions; how many statements it is; and how deep statements nest.
pub record Parts : Type 0 where
  pub names : List Use
  pub literals : List Literal
  pub always : List (List ℕ)
  pub exprs : List Expr
  pub count : ℕ
  pub depth : ℕ

abbrev pub none : Parts
none = record { names = []; literals = []; always = []; exprs = []; count = 0; depth = 0 }

abbrev pub parts_or_none : Option Parts → Parts
parts_or_none (Some p) = p
parts_or_none None = none

-- statements one after the other
abbrev pub followed : Parts → Parts → Parts
followed p q = record {
  names = p.names ++ q.names;
  literals = p.literals ++ q.literals;
  always = p.always ++ q.always;
  exprs = p.exprs ++ q.exprs;
  count = p.count + q.count;
  depth = max p.depth q.depth;
}

abbrev pub sequence : List Parts → Parts
sequence [] = none
sequence (p ∷ ps) = followed p (sequence ps)

-- the names of the first list that are in the second
abbrev pub in_both : List (List ℕ) → List (List ℕ) → List (List ℕ)
in_both first second = filter (λ name. among second name) first

abbrev pub choice : Expr → Parts → Parts → Parts
choice on body other = record {
  names = expr_uses on ++ (body.names ++ other.names);
  literals = expr_literals on ++ (body.literals ++ other.literals);
  always = in_both body.always other.always;
  exprs = on ∷ (body.exprs ++ other.exprs);
  count = suc (body.count + other.count);
  depth = suc (max body.depth other.depth);
}

abbrev pub assignment : Assign → Parts
assignment a = record {
  names = used Target a.target ∷ expr_uses a.value;
  literals = expr_literals a.value;
  always = a.target.word ∷ [];
  exprs = a.value ∷ [];
  count = 1;
  depth = 1;
}

abbrev pub one_more : Parts → Parts
one_more p = record { names = p.names; literals = p.literals; always = p.always; exprs = p.exprs; count = suc p.count; depth = suc p.depth }

abbrev pub stmt_parts : Stmt-F Parts → Parts
stmt_parts (Stmt-F.Block ps) = one_more (sequence ps)
stmt_parts (Stmt-F.If on body other) = choice on body (parts_or_none other)
stmt_parts (Stmt-F.Assign a) = assignment a

abbrev pub parts : Stmt → Parts
parts = fold-Stmt Parts stmt_parts

-- the same of an item; a declaration has nothing of this, and a clock is used and not read
abbrev pub with_clock : Spot → Parts → Parts
with_clock clock p = record { names = used Clock clock ∷ p.names; literals = p.literals; always = p.always; exprs = p.exprs; count = p.count; depth = p.depth }

abbrev pub item_parts : Item → Parts
item_parts (I.Assign a) = assignment a
item_parts (I.Logic d) = none
item_parts (I.Comb body) = parts body
item_parts (I.Edge clock body) = with_clock clock (parts body)

-- the names that are assigned to, and those that are read
abbrev pub if_target : Role → Spot → List Spot → List Spot
if_target Target name names = name ∷ names
if_target Read name names = names
if_target Clock name names = names

abbrev pub targets_in : List Use → List Spot
targets_in [] = []
targets_in (u ∷ us) = if_target u.role u.name (targets_in us)

abbrev pub if_read : Role → Spot → List Spot → List Spot
if_read Target name names = names
if_read Read name names = name ∷ names
if_read Clock name names = names

abbrev pub reads_in : List Use → List Spot
reads_in [] = []
reads_in (u ∷ us) = if_read u.role u.name (reads_in us)

-- those of an item
abbrev pub targets : Item → List Spot
targets i = targets_in (item_parts i).names

abbrev pub reads : Item → List Spot
reads i = reads_in (item_parts i).names
