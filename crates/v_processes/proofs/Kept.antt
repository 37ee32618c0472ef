-- Parts of processes.
use Rattle.std.proofs.Common.{◌≡◌, ℕ, suc, ◌+◌, ◌<◌, Bool, true, false, List, [], ◌∷◌, ◌++◌, length, drop, get_or, Option, Some, None, Result, Ok, Err, OnOk, refl, sym, ap, ◌∙◌, append_assoc, arith}
use Rattle.std.proofs.Math.Seq.{drop-cons}
use Rattle.std.proofs.lemmas.List.{append-nil, map_push}
use Rattle.v_tree.specs.declared.expressions.VExpr.{VExpr}
use Rattle.v_tree.specs.declared.items.VConnection.{VConnection}
use Rattle.v_tree.specs.declared.items.VItem.{VItem}
use Rattle.v_tree.specs.declared.items.VModule.{VModule}
use Rattle.v_meaning.specs.Scopes.{Named, Scope, all_bits, named}
use Rattle.v_meaning.specs.Statements.{Target, target}
use Rattle.v_meaning.specs.Values.{meaning}
use Rattle.v_meaning.specs.Machine.{is_input}
use Rattle.v_meaning.specs.Modules.{Kind, input_net, net, variable, Signal, Process, connect, connections, driving, from_output, port_target, port_value, as_target, over, kind_of, numbered}
use Rattle.v_eval.specs.Names.{nameless}
use Rattle.v_processes.specs.declared.process.Port.{Port}
use Rattle.v_processes.specs.declared.process.Proc.{Proc}
use Rattle.v_processes.specs.Processes.{port_named, process_at, processes_at}
use Rattle.v_processes.specs.Connections.{connected, connected_source}
use Rattle.v_processes.specs.Stems.{given, link_source, link_sources}

pub numbered_alike : (k : ℕ) (n m : Named) → k ≡ n.number → n ≡ nameless m → k ≡ m.number
numbered_alike k n m e f = e ∙ ap (λ (x : Named). x.number) f

pub bits_alike : (k : ℕ) (n m : Named) → k ≡ all_bits n → n ≡ nameless m → k ≡ all_bits m
bits_alike k n m e f = e ∙ ap (λ (x : Named). all_bits x) f

pub ruleset edges = (numbered_alike)

pub ruleset ports = (numbered_alike, bits_alike)

out-by : (sc : Scope) (n : Named) (p : Port) (o : Option Target) → p.number ≡ n.number → p.bits ≡ all_bits n → from_output sc (port_named p) o ≡ from_output sc n o
out-by sc n p None x y = refl
out-by sc n p (Some t) x y = λ j. driving sc t (port_value (record { name = []; number = x j; width = y j; words = None }))

-- a connection by its kind
connect-by : (sc : Scope) (k : Kind) (n : Named) (e : VExpr) (p : Port) (b : Bool) → b ≡ is_input k → p.number ≡ n.number → p.bits ≡ all_bits n → connected b sc p e ≡ connect sc k n e
connect-by sc input_net n e p true i x y = ap (λ t. driving sc t (meaning e)) (port x y)
  where
    plain : ℕ → ℕ → Target
    plain a b = port_target (record { name = []; number = a; width = b; words = None })

    port : p.number ≡ n.number → p.bits ≡ all_bits n → port_target (port_named p) ≡ port_target n
    port x y = λ j. plain (x j) (y j)
connect-by sc input_net n e p false i x y = absurd (cc)
connect-by sc net n e p true i x y = absurd (cc)
connect-by sc net n e p false i x y = out-by sc n p (as_target e) x y
connect-by sc variable n e p true i x y = absurd (cc)
connect-by sc variable n e p false i x y = out-by sc n p (as_target e) x y

pub where-ok : {A E : Type 0} (r : Result A E) {P Q : Type 0} → (P → Q) → OnOk r P → OnOk r Q
where-ok (Ok a) f h = f h
where-ok (Err e) f h = tt

-- one process more
pub pushed : (ms : List VModule) (old new : List Proc) (p : Proc) → new ≡ old ++ p ∷ [] → processes_at ms new ≡ processes_at ms old ++ process_at ms p ∷ []
pushed ms old new p e = ap (processes_at ms) e ∙ map_push (process_at ms) old p

pub none-more : (ms : List VModule) (old : List Proc) (ps : List Process) → ps ≡ [] → processes_at ms old ≡ processes_at ms old ++ ps
none-more ms old ps e = sym (append-nil (processes_at ms old)) ∙ ap (λ l. processes_at ms old ++ l) (sym e)

pub no-target : (sc : Scope) (p : Port) (e : VExpr) → over target None ≡ as_target e → from_output sc (port_named p) (as_target e) ≡ []
no-target sc p e h = ap (from_output sc (port_named p)) (sym h)

pub connection-is : (sc : Scope) (n : ℕ) (ports : List Signal) (c : VConnection) (e : VExpr) (p : Port) (b : Bool) → c.value ≡ Some e → b ≡ is_input (kind_of ports c.port)
    → p.number ≡ (named (numbered n ports) c.port).number → p.bits ≡ all_bits (named (numbered n ports) c.port) → connected b sc p e ≡ connections sc n ports (c ∷ [])
connection-is sc n ports c e p b is i x y =
    connect-by sc (kind_of ports c.port) (named (numbered n ports) c.port) e p b i x y
    ∙ sym (append-nil (connect sc (kind_of ports c.port) (named (numbered n ports) c.port) e))
    ∙ sym (ap (λ o. elim o [ None ↦ [] | Some x ↦ connect sc (kind_of ports c.port) (named (numbered n ports) c.port) x ] ++ []) is)

pub connection-none : (sc : Scope) (n : ℕ) (ports : List Signal) (c : VConnection) → c.value ≡ None → connections sc n ports (c ∷ []) ≡ []
connection-none sc n ports c is = ap (λ o. elim o [ None ↦ [] | Some x ↦ connect sc (kind_of ports c.port) (named (numbered n ports) c.port) x ] ++ []) is

pub connections-cons : (sc : Scope) (n : ℕ) (ports : List Signal) (c : VConnection) (cs : List VConnection) → connections sc n ports (c ∷ cs) ≡ connections sc n ports (c ∷ []) ++ connections sc n ports cs
connections-cons sc n ports c cs = ap (λ l. l ++ connections sc n ports cs) (sym (append-nil _))

-- the rest of a list begins with the next item
pub drop-here : {A : Type 0} (xs : List A) (i : ℕ) (x : A) → i < length xs → x ≡ get_or xs i x → drop i xs ≡ x ∷ drop (i + 1) xs
drop-here xs i x h e = drop-cons xs i x h ∙ ap (λ y. y ∷ drop (suc i) xs) (sym e) ∙ ap (λ k. x ∷ drop k xs) (next i)
  where
    next : (i : ℕ) → suc i ≡ i + 1
    next i = omega arith

-- a turn of a loop that adds what an item gives
pub turn : {A : Type 0} (old new one rest more all : List A) → new ≡ old ++ one → more ≡ one ++ rest → old ++ more ≡ all → new ++ rest ≡ all
turn old new one rest more all e f h = ap (λ l. l ++ rest) e ∙ append_assoc old one rest ∙ ap (λ l. old ++ l) (sym f) ∙ h

-- where a connection stems from, by its kind
link-by : (is : List VItem) (k : Kind) (n : Named) (e : VExpr) (p : Port) (b : Bool) → b ≡ is_input k → p.number ≡ n.number → p.bits ≡ all_bits n → connected_source b is p e ≡ link_source is k n e
link-by is input_net n e p true i x y = λ j. record { items = is; stem = given (x j) (y j) e } ∷ []
link-by is input_net n e p false i x y = absurd (cc)
link-by is net n e p true i x y = absurd (cc)
link-by is net n e p false i x y = refl
link-by is variable n e p true i x y = absurd (cc)
link-by is variable n e p false i x y = refl

pub link-is : (is : List VItem) (n : ℕ) (ports : List Signal) (c : VConnection) (e : VExpr) (p : Port) (b : Bool) → c.value ≡ Some e → b ≡ is_input (kind_of ports c.port)
    → p.number ≡ (named (numbered n ports) c.port).number → p.bits ≡ all_bits (named (numbered n ports) c.port) → connected_source b is p e ≡ link_sources is n ports (c ∷ [])
link-is is n ports c e p b there i x y =
    link-by is (kind_of ports c.port) (named (numbered n ports) c.port) e p b i x y
    ∙ sym (append-nil (link_source is (kind_of ports c.port) (named (numbered n ports) c.port) e))
    ∙ sym (ap (λ o. elim o [ None ↦ [] | Some x ↦ link_source is (kind_of ports c.port) (named (numbered n ports) c.port) x ] ++ []) there)

pub links-cons : (is : List VItem) (n : ℕ) (ports : List Signal) (c : VConnection) (cs : List VConnection) → link_sources is n ports (c ∷ cs) ≡ link_sources is n ports (c ∷ []) ++ link_sources is n ports cs
links-cons is n ports c cs = ap (λ l. l ++ link_sources is n ports cs) (sym (append-nil _))
