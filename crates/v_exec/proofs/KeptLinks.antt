-- What is connected to the inputs of children does no arithmetic on over 128 bits.
use Rattle.std.proofs.Common.{◌≡◌, ℕ, suc, ◌+◌, ◌≤◌, max, Bool, true, false, cond, List, [], ◌∷◌, ◌++◌, Option, Some, None, refl, ap, sym, ◌∙◌, subst}
use Rattle.std.specs.Prelude.{if◌then◌else◌}
use Rattle.std.specs.List.{list_all}
use Rattle.std.specs.Str.{bytes_eq}
use Rattle.v_tree.specs.Names.{Name, among}
use Rattle.v_tree.specs.Grammatical.{is_perhaps}
use Rattle.v_tree.specs.ExprRules.{Around, only_if, alone, rules_of}
use Rattle.v_tree.specs.Rules.{Port, ports_by, ports_of, port_named, signal_size, item_size, value_size, connected, connections_broken}
use Rattle.v_tree.specs.declared.expressions.VExpr.{VExpr}
use Rattle.v_tree.specs.declared.items.VConnection.{VConnection}
use Rattle.v_tree.specs.declared.items.VItem.{VItem}
use Rattle.v_tree.specs.declared.items.VItem.TheVariants as I
use Rattle.v_tree.specs.declared.items.VRegRest.TheVariants as G
use Rattle.v_tree.specs.declared.items.VSignal.{VSignal}
use Rattle.v_tree.specs.declared.items.VSignal.TheVariants.{Input, Output, OutputReg, Wire, Reg}
use Rattle.v_meaning.specs.Scopes as M
use Rattle.v_meaning.specs.Scopes.{all_bits}
use Rattle.v_meaning.specs.Modules.{Kind, input_net, net, variable, Signal, signal, signals, numbered, kind_of}
use Rattle.v_eval.specs.Limits.{limits, most_given}
use Rattle.v_selects.specs.Few.{few_of_expr, few_of_connection}
use Rattle.v_exec.specs.Agreeing.{Agrees}
use Rattle.v_exec.specs.Keeping.{LinkNarrow, LinksNarrow}
use Rattle.v_exec.proofs.KeptExprs.{left-none, right-none, both-yes}
use Rattle.v_exec.proofs.KeptStmts.{expr-kept}
use Rattle.v_exec.proofs.KeptRuns.{range-bits}

-- the port that an input is
abbrev pub IsInputPort : Option Port → M.Named → Type 0
IsInputPort None n = ⊥
IsInputPort (Some p) n = (p.is_input ≡ true) × (all_bits n ≡ p.width)

input-here : (b : Bool) (p : Port) (rest : Option Port) (k : Kind) (m n : M.Named) → p.is_input ≡ true → all_bits m ≡ p.width → (k ≡ input_net → IsInputPort rest n) → cond b input_net k ≡ input_net → IsInputPort (if b then Some p else rest) (cond b m n)
input-here true p rest k m n h g f is = (h, g)
input-here false p rest k m n h g f is = f is

other-port : (b : Bool) (p : Port) (rest : Option Port) (j k : Kind) (m n : M.Named) → (j ≡ input_net → ⊥) → (k ≡ input_net → IsInputPort rest n) → cond b j k ≡ input_net → IsInputPort (if b then Some p else rest) (cond b m n)
other-port true p rest j k m n h f is = absurd (h is)
other-port false p rest j k m n h f is = f is

no-port : (b : Bool) (rest : Option Port) (j k : Kind) (m n : M.Named) → (j ≡ input_net → ⊥) → (k ≡ input_net → IsInputPort rest n) → cond b j k ≡ input_net → IsInputPort rest (cond b m n)
no-port true rest j k m n h f is = absurd (h is)
no-port false rest j k m n h f is = f is

net-apart : net ≡ input_net → ⊥
net-apart e = absurd (cc)

variable-apart : variable ≡ input_net → ⊥
variable-apart e = absurd (cc)

abbrev pub as_named : ℕ → Signal → M.Named
as_named n s = record { name = s.name; number = n; width = s.width; words = s.words }

port-first : (s : VSignal) (ps : List Port) (k : Kind) (at n : ℕ) (m : M.Named) (name : Name) → (k ≡ input_net → IsInputPort (port_named ps name) m) → cond (bytes_eq (signal s).name name) (signal s).kind k ≡ input_net
    → IsInputPort (port_named (ports_by s at ++ ps) name) (cond (bytes_eq (signal s).name name) (as_named n (signal s)) m)
port-first (Input r q) ps k at n m name h is = input-here (bytes_eq q name) _ (port_named ps name) k (as_named n (signal (Input r q))) m refl (range-bits r) h is
port-first (Output r q) ps k at n m name h is = other-port (bytes_eq q name) _ (port_named ps name) net k (as_named n (signal (Output r q))) m net-apart h is
port-first (OutputReg r q None) ps k at n m name h is = other-port (bytes_eq q name) _ (port_named ps name) variable k (as_named n (signal (OutputReg r q None))) m variable-apart h is
port-first (OutputReg r q (Some v)) ps k at n m name h is = other-port (bytes_eq q name) _ (port_named ps name) variable k (as_named n (signal (OutputReg r q (Some v)))) m variable-apart h is
port-first (Wire r q) ps k at n m name h is = no-port (bytes_eq q name) (port_named ps name) net k (as_named n (signal (Wire r q))) m net-apart h is
port-first (Reg r q None) ps k at n m name h is = no-port (bytes_eq q name) (port_named ps name) variable k (as_named n (signal (Reg r q None))) m variable-apart h is
port-first (Reg r q (Some (G.Memory left))) ps k at n m name h is = no-port (bytes_eq q name) (port_named ps name) variable k (as_named n (signal (Reg r q (Some (G.Memory left))))) m variable-apart h is
port-first (Reg r q (Some (G.Initial v))) ps k at n m name h is = no-port (bytes_eq q name) (port_named ps name) variable k (as_named n (signal (Reg r q (Some (G.Initial v))))) m variable-apart h is

input-port : (is : List VItem) (at n : ℕ) (name : Name) → kind_of (signals is) name ≡ input_net → IsInputPort (port_named (ports_of is at) name) (M.named (numbered n (signals is)) name)
input-port [] at n name e = net-apart e
input-port (I.Signal s ∷ is) at n name e =
    port-first s (ports_of is (at + signal_size s)) (kind_of (signals is) name) at n (M.named (numbered (suc n) (signals is)) name) name (input-port is (at + signal_size s) (suc n) name) e
input-port (I.Initial i ∷ is) at n name e = input-port is (at + item_size (I.Initial i)) n name e
input-port (I.Process p ∷ is) at n name e = input-port is (at + item_size (I.Process p)) n name e
input-port (I.Function f ∷ is) at n name e = input-port is (at + item_size (I.Function f)) n name e
input-port (I.Instance i ∷ is) at n name e = input-port is (at + item_size (I.Instance i)) n name e

-- what is connected to it
then-none : (b : Bool) (xs ys : List ℕ) → b ≡ true → (if b then xs else ys) ≡ [] → xs ≡ []
then-none true xs ys h none = none
then-none false xs ys h none = absurd (cc)

given-narrow : (around : Around) (sc : M.Scope) (o : Option Port) (n : M.Named) (x : VExpr) (at : ℕ) → Agrees around sc → few_of_expr x ≡ true → IsInputPort o n → connected around o (Some x) at ≡ [] → most_given (all_bits n) (limits x) sc ≤ 128
given-narrow around sc None n x at agree fits h none = absurd h
given-narrow around sc (Some p) n x at agree fits h none =
    let r = rules_of x in
    let input : r.broken around (max p.width (r.width around)) (at + 3) ≡ [] = then-none p.is_input (r.broken around (max p.width (r.width around)) (at + 3)) (alone r around (at + 3) ++ (if r.is_target then r.driven around (at + 3) else (at + 3) ∷ [])) h.0 none in
    let k = expr-kept around sc agree x fits (max p.width (r.width around)) (at + 3) input in
    let same : max (all_bits n) ((limits x).wide sc) ≡ max p.width (r.width around) = ap (λ w. max w ((limits x).wide sc)) h.1 ∙ ap (max p.width) k.0 in
    subst (λ w. (limits x).most w sc ≤ 128) (sym same) k.1

link-narrow : (around : Around) (sc : M.Scope) (js : List VItem) (v : Option VExpr) (port : Name) (at : ℕ) → Agrees around sc → is_perhaps few_of_expr v ≡ true → connected around (port_named (ports_of js 0) port) v at ≡ [] → LinkNarrow sc js v port
link-narrow around sc js None port at agree fits none = tt
link-narrow around sc js (Some x) port at agree fits none =
    λ n e. given-narrow around sc (port_named (ports_of js 0) port) (M.named (numbered n (signals js)) port) x at agree fits (input-port js 0 n port e) none

pub links-narrow : (around : Around) (sc : M.Scope) (js : List VItem) (seen : List Name) (cs : List VConnection) (at : ℕ) → Agrees around sc → list_all few_of_connection cs ≡ true → connections_broken around (ports_of js 0) seen cs at ≡ [] → LinksNarrow sc js cs
links-narrow around sc js seen [] at agree fits none = tt
links-narrow around sc js seen (c ∷ cs) at agree fits none =
    let b = both-yes (few_of_connection c) (list_all few_of_connection cs) fits in
    let first = only_if (among seen c.port) (suc at) in
    let second = connected around (port_named (ports_of js 0) c.port) c.value at in
    let third = connections_broken around (ports_of js 0) (c.port ∷ seen) cs (at + (5 + value_size c.value)) in
    let rest = right-none first (second ++ third) none in (
      link-narrow around sc js c.value c.port at agree b.0 (left-none second third rest),
      links-narrow around sc js (c.port ∷ seen) cs (at + (5 + value_size c.value)) agree b.1 (right-none second third rest),
    )
