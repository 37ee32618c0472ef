-- Parts of one kind taken away leave those of another.
use Rattle.std.proofs.Common.{◌≡◌, List, refl}
use Rattle.std.proofs.lemmas.Bool.{false≢true}
use Rattle.v_tree.specs.declared.parts.VPart.{VPart}
use Rattle.v_tree.specs.declared.parts.VPart.TheVariants as P
use Rattle.v_tree.specs.Parts.{first_of, all_of, second_of, as_branch, as_connections, as_event, as_expr, as_initial, as_input, as_item, as_local, as_lval, as_name, as_number, as_ports, as_range, as_reg_rest, as_stmt}
use Rattle.v_parts.specs.Taking.{without, others}
use Rattle.v_parts.proofs.Apart.{Apart, kept-first, kept-all, second-first, others-all}

name-ports : Apart as_name as_ports
name-ports (P.Name x) e = refl
name-ports p e = absurd (false≢true e)

name-range : Apart as_name as_range
name-range (P.Name x) e = refl
name-range p e = absurd (false≢true e)

name-initial : Apart as_name as_initial
name-initial (P.Name x) e = refl
name-initial p e = absurd (false≢true e)

range-initial : Apart as_range as_initial
range-initial (P.Range x) e = refl
range-initial p e = absurd (false≢true e)

name-reg_rest : Apart as_name as_reg_rest
name-reg_rest (P.Name x) e = refl
name-reg_rest p e = absurd (false≢true e)

range-reg_rest : Apart as_range as_reg_rest
range-reg_rest (P.Range x) e = refl
range-reg_rest p e = absurd (false≢true e)

name-number : Apart as_name as_number
name-number (P.Name x) e = refl
name-number p e = absurd (false≢true e)

lval-expr : Apart as_lval as_expr
lval-expr (P.Lval x) e = refl
lval-expr p e = absurd (false≢true e)

event-branch : Apart as_event as_branch
event-branch (P.Event x) e = refl
event-branch p e = absurd (false≢true e)

name-stmt : Apart as_name as_stmt
name-stmt (P.Name x) e = refl
name-stmt p e = absurd (false≢true e)

stmt-range : Apart as_stmt as_range
stmt-range (P.Stmt x) e = refl
stmt-range p e = absurd (false≢true e)

name-connections : Apart as_name as_connections
name-connections (P.Name x) e = refl
name-connections p e = absurd (false≢true e)

name-item : Apart as_name as_item
name-item (P.Name x) e = refl
name-item p e = absurd (false≢true e)

ports-item : Apart as_ports as_item
ports-item (P.Ports x) e = refl
ports-item p e = absurd (false≢true e)

name-input : Apart as_name as_input
name-input (P.Name x) e = refl
name-input p e = absurd (false≢true e)

stmt-input : Apart as_stmt as_input
stmt-input (P.Stmt x) e = refl
stmt-input p e = absurd (false≢true e)

range-input : Apart as_range as_input
range-input (P.Range x) e = refl
range-input p e = absurd (false≢true e)

name-local : Apart as_name as_local
name-local (P.Name x) e = refl
name-local p e = absurd (false≢true e)

stmt-local : Apart as_stmt as_local
stmt-local (P.Stmt x) e = refl
stmt-local p e = absurd (false≢true e)

range-local : Apart as_range as_local
range-local (P.Range x) e = refl
range-local p e = absurd (false≢true e)

input-local : Apart as_input as_local
input-local (P.Input x) e = refl
input-local p e = absurd (false≢true e)

pub first-name-ports : (ps : List VPart) → first_of as_ports (without as_name ps) ≡ first_of as_ports ps
first-name-ports = kept-first as_name as_ports name-ports

pub first-name-range : (ps : List VPart) → first_of as_range (without as_name ps) ≡ first_of as_range ps
first-name-range = kept-first as_name as_range name-range

pub first-name-initial : (ps : List VPart) → first_of as_initial (without as_name ps) ≡ first_of as_initial ps
first-name-initial = kept-first as_name as_initial name-initial

pub first-range-initial : (ps : List VPart) → first_of as_initial (without as_range ps) ≡ first_of as_initial ps
first-range-initial = kept-first as_range as_initial range-initial

pub first-name-reg_rest : (ps : List VPart) → first_of as_reg_rest (without as_name ps) ≡ first_of as_reg_rest ps
first-name-reg_rest = kept-first as_name as_reg_rest name-reg_rest

pub first-range-reg_rest : (ps : List VPart) → first_of as_reg_rest (without as_range ps) ≡ first_of as_reg_rest ps
first-range-reg_rest = kept-first as_range as_reg_rest range-reg_rest

pub first-name-number : (ps : List VPart) → first_of as_number (without as_name ps) ≡ first_of as_number ps
first-name-number = kept-first as_name as_number name-number

pub first-lval-expr : (ps : List VPart) → first_of as_expr (without as_lval ps) ≡ first_of as_expr ps
first-lval-expr = kept-first as_lval as_expr lval-expr

pub first-event-branch : (ps : List VPart) → first_of as_branch (without as_event ps) ≡ first_of as_branch ps
first-event-branch = kept-first as_event as_branch event-branch

pub first-name-stmt : (ps : List VPart) → first_of as_stmt (without as_name ps) ≡ first_of as_stmt ps
first-name-stmt = kept-first as_name as_stmt name-stmt

pub first-stmt-range : (ps : List VPart) → first_of as_range (without as_stmt ps) ≡ first_of as_range ps
first-stmt-range = kept-first as_stmt as_range stmt-range

pub first-name-connections : (ps : List VPart) → first_of as_connections (without as_name ps) ≡ first_of as_connections ps
first-name-connections = kept-first as_name as_connections name-connections

pub all-name-item : (ps : List VPart) → all_of as_item (without as_name ps) ≡ all_of as_item ps
all-name-item = kept-all as_name as_item name-item

pub all-ports-item : (ps : List VPart) → all_of as_item (without as_ports ps) ≡ all_of as_item ps
all-ports-item = kept-all as_ports as_item ports-item

pub all-name-input : (ps : List VPart) → all_of as_input (without as_name ps) ≡ all_of as_input ps
all-name-input = kept-all as_name as_input name-input

pub all-stmt-input : (ps : List VPart) → all_of as_input (without as_stmt ps) ≡ all_of as_input ps
all-stmt-input = kept-all as_stmt as_input stmt-input

pub all-range-input : (ps : List VPart) → all_of as_input (without as_range ps) ≡ all_of as_input ps
all-range-input = kept-all as_range as_input range-input

pub all-name-local : (ps : List VPart) → all_of as_local (without as_name ps) ≡ all_of as_local ps
all-name-local = kept-all as_name as_local name-local

pub all-stmt-local : (ps : List VPart) → all_of as_local (without as_stmt ps) ≡ all_of as_local ps
all-stmt-local = kept-all as_stmt as_local stmt-local

pub all-range-local : (ps : List VPart) → all_of as_local (without as_range ps) ≡ all_of as_local ps
all-range-local = kept-all as_range as_local range-local

pub second-name : (ps : List VPart) → first_of as_name (without as_name ps) ≡ second_of as_name ps
second-name = second-first as_name

pub others-input-local : (ps : List VPart) → all_of as_local (others as_input ps) ≡ all_of as_local ps
others-input-local = others-all as_input as_local input-local

pub ruleset kept = (first-name-ports, first-name-range, first-name-initial, first-range-initial, first-name-reg_rest, first-range-reg_rest, first-name-number, first-lval-expr, first-event-branch, first-name-stmt, first-stmt-range, first-name-connections, all-name-item, all-ports-item, all-name-input, all-stmt-input, all-range-input, all-name-local, all-stmt-local, all-range-local, second-name, others-input-local)
