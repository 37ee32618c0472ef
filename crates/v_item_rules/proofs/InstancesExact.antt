-- What is found in an instance is what the rules tell.
use Rattle.std.proofs.Common.{◌≡◌, ℕ, zero, suc, ◌+◌, Bool, true, false, not, ◌||◌, List, [], ◌∷◌, ◌++◌, Option, Some, None, refl, sym, ap, ◌∙◌, subst, max, is_some, if◌then◌else◌, arith}
use Rattle.std.specs.Str.{bytes_eq}
use Rattle.v_tree.specs.Names.{Name, among}
use Rattle.v_tree.specs.Scopes.{bits_of}
use Rattle.v_tree.specs.ExprRules.{Around, Rules, only_if, rules_of, alone}
use Rattle.v_tree.specs.Rules as R
use Rattle.v_tree.specs.Rules.{Port, port_named, value_size, connections_size, connections_broken}
use Rattle.v_tree.specs.declared.expressions.VExpr.{VExpr}
use Rattle.v_tree.specs.declared.items.VConnection.{VConnection}
use Rattle.v_tree.specs.declared.items.VInstance.{VInstance}
use Rattle.v_tree.specs.declared.items.VItem.{VItem}
use Rattle.v_scopes.specs.Env.{Env}
use Rattle.v_scopes.specs.declared.entry.Entry.{Entry}
use Rattle.v_scopes.specs.declared.entry.Entry.TheVariants as N
use Rattle.v_scopes.specs.declared.entry.Kind.{Kind}
use Rattle.v_scopes.specs.declared.entry.Kind.TheVariants as K
use Rattle.v_expr_rules.specs.declared.seen.Seen.{Seen}
use Rattle.v_expr_rules.specs.Seen as S
use Rattle.v_expr_rules.specs.Seen.{plus, earlier, mark, in_context, is_wide}
use Rattle.v_expr_rules.specs.Least.{cap, first}
use Rattle.v_expr_rules.specs.Walks.{expr_seen}
use Rattle.v_expr_rules.specs.Things.{around}
use Rattle.v_expr_rules.specs.Exact.{Fits}
use Rattle.v_expr_rules.proofs.Saturation.{plus-cap, is_wide-max, earlier-none, none-earlier, earlier-assoc, first-append, first-if, first-one}
use Rattle.v_expr_rules.proofs.Operands.{sum-of, next-token, wide-of, alone-of}
use Rattle.v_stmt_rules.specs.declared.statements.StmtSeen.{StmtSeen}
use Rattle.v_stmt_rules.specs.Stmts.{Told, nothing, meets}
use Rattle.v_stmt_rules.proofs.StmtsExact.{expr-at}
use Rattle.v_item_rules.specs.Instances.{driven_first, value_first, port_first, is_port, connected, connection_added, none_connected, connections_from, instance_tokens, has_some, instance_seen}

abbrev pub is_input : Kind → Bool
is_input K.Input = true
is_input K.Net = false
is_input K.Variable = false
is_input K.Local = false

-- a port as the rules and as the table have it
abbrev pub PortSame : Option Port → Option Entry → Type 0
PortSame None None = Unit {0}
PortSame None (Some e) = ⊥
PortSame (Some p) None = ⊥
PortSame (Some p) (Some (N.Value kind left)) = (p.is_input ≡ is_input kind) × (p.width ≡ bits_of left)
PortSame (Some p) (Some (N.Memory left)) = ⊥
PortSame (Some p) (Some (N.Function left item)) = ⊥
PortSame (Some p) (Some (N.Result left item)) = ⊥
PortSame (Some p) (Some N.Part) = ⊥

abbrev pub PortsAre : Env → List Port → Type 0
PortsAre ports ps = (n : Name) → PortSame (port_named ps n) (ports n)

here : (at : ℕ) → Some (plus (cap at) 1) ≡ first (suc at ∷ [])
here at = ap Some (next-token at) ∙ sym (first-one (suc at))

driven-by : (b : Bool) (s : Seen) (r : Rules) (a : Around) (at : ℕ) → Fits s r a at → r.is_target ≡ b
    → (if b then earlier (S.alone s) s.driven else earlier (S.alone s) (Some (cap at))) ≡ first (alone r a at ++ (if b then r.driven a at else at ∷ []))
driven-by true s r a at f e = (λ i. earlier (alone-of s r a at f i) (f.driven i)) ∙ sym (first-append (alone r a at) (r.driven a at))
driven-by false s r a at f e = (λ i. earlier (alone-of s r a at f i) (sym (first-one at) i)) ∙ sym (first-append (alone r a at) (at ∷ []))

driven-found : (s : Seen) (r : Rules) (a : Around) (at n : ℕ) → n ≡ cap at → Fits s r a at → driven_first s n ≡ first (alone r a at ++ (if r.is_target then r.driven a at else at ∷ []))
driven-found s r a at n is f =
    (λ i. if f.target i then earlier (S.alone s) s.driven else earlier (S.alone s) (Some (is i))) ∙ driven-by r.is_target s r a at f refl

input-found : (left : Option ℕ) (width : ℕ) (s : Seen) (r : Rules) (a : Around) (at : ℕ) → width ≡ bits_of left → Fits s r a at
    → in_context s (is_wide (bits_of left) || is_wide s.width) ≡ first (r.broken a (max width (r.width a)) at)
input-found left width s r a at e f =
    ap (λ b. in_context s (is_wide (bits_of left) || b)) (wide-of s r a at f)
    ∙ ap (λ w. in_context s (is_wide w || is_wide (r.width a))) (sym e)
    ∙ ap (in_context s) (sym (is_wide-max width (r.width a)))
    ∙ f.broken (max width (r.width a))

-- what is connected to a port, by whether it is an input
abbrev connected_to : Bool → ℕ → Rules → Around → ℕ → List ℕ
connected_to true width r a at = r.broken a (max width (r.width a)) at
connected_to false width r a at = alone r a at ++ (if r.is_target then r.driven a at else at ∷ [])

value-found : (kind : Kind) (left : Option ℕ) (width : ℕ) (s : Seen) (r : Rules) (a : Around) (at n : ℕ) → n ≡ cap at → width ≡ bits_of left → Fits s r a at
    → value_first kind left s n ≡ first (connected_to (is_input kind) width r a at)
value-found K.Input left width s r a at n is e f = input-found left width s r a at e f
value-found K.Net left width s r a at n is e f = driven-found s r a at n is f
value-found K.Variable left width s r a at n is e f = driven-found s r a at n is f
value-found K.Local left width s r a at n is e f = driven-found s r a at n is f

by-input : (b : Bool) (width : ℕ) (r : Rules) (a : Around) (at : ℕ)
    → connected_to b width r a at ≡ (if b then r.broken a (max width (r.width a)) at else (alone r a at ++ (if r.is_target then r.driven a at else at ∷ [])))
by-input true width r a at = refl
by-input false width r a at = refl

port-found : (p : Option Port) (e : Option Entry) (x : VExpr) (env : Env) (items : List VItem) (at : ℕ) → PortSame p e
    → port_first e (expr_seen x env items (plus (cap at) 3)) (cap at) ≡ first (R.connected (around env items) p (Some x) at)
port-found None None x env items at h = here at
port-found None (Some e) x env items at h = absurd h
port-found (Some p) None x env items at h = absurd h
port-found (Some p) (Some (N.Value kind left)) x env items at h =
    value-found kind left p.width (expr_seen x env items (plus (cap at) 3)) (rules_of x) (around env items) (at + 3) (plus (cap at) 3) (plus-cap at 3) h.1
    (expr-at x env items (plus (cap at) 3) (at + 3) (plus-cap at 3))
    ∙ ap (λ b. first (connected_to b p.width (rules_of x) (around env items) (at + 3))) (sym h.0)
    ∙ ap first (by-input p.is_input p.width (rules_of x) (around env items) (at + 3))
port-found (Some p) (Some (N.Memory left)) x env items at h = absurd h
port-found (Some p) (Some (N.Function left item)) x env items at h = absurd h
port-found (Some p) (Some (N.Result left item)) x env items at h = absurd h
port-found (Some p) (Some N.Part) x env items at h = absurd h

open-found : (p : Option Port) (e : Option Entry) (env : Env) (items : List VItem) (at : ℕ) → PortSame p e → mark (not (is_port e)) (plus (cap at) 1) ≡ first (R.connected (around env items) p None at)
open-found None None env items at h = here at
open-found None (Some e) env items at h = absurd h
open-found (Some p) None env items at h = absurd h
open-found (Some p) (Some (N.Value kind left)) env items at h = refl
open-found (Some p) (Some (N.Memory left)) env items at h = absurd h
open-found (Some p) (Some (N.Function left item)) env items at h = absurd h
open-found (Some p) (Some (N.Result left item)) env items at h = absurd h
open-found (Some p) (Some N.Part) env items at h = absurd h

record ConnectedFits (s : StmtSeen) (size : ℕ) (tokens : List ℕ) : Type 0 where
  size_is : s.size ≡ cap size
  found : s.first ≡ first tokens

one-fits : (p : Option Port) (e : Option Entry) (v : Option VExpr) (env : Env) (items : List VItem) (at : ℕ) → PortSame p e
    → ConnectedFits (connected e v env items (cap at)) (5 + value_size v) (R.connected (around env items) p v at)
one-fits p e None env items at h = record { size_is = refl; found = open-found p e env items at h }
one-fits p e (Some x) env items at h =
    let f = expr-at x env items (plus (cap at) 3) (at + 3) (plus-cap at 3) in
    record { size_is = sum-of 5 (expr_seen x env items (plus (cap at) 3)).size 5 (rules_of x).size refl f.size; found = port-found p e x env items at h }

-- ports that are connected before
abbrev Connected : Env → List Name → Type 0
Connected met seen = (n : Name) → is_some (met n) ≡ among seen n

some-more : (b : Bool) (e o : Option Entry) (c : Bool) → is_some e ≡ true → is_some o ≡ c → is_some (if b then e else o) ≡ (b || c)
some-more true e o c h k = h
some-more false e o c h k = k

connected-more : (met : Env) (seen : List Name) (x : Name) → Connected met seen → Connected (meets met x) (x ∷ seen)
connected-more met seen x h n = some-more (bytes_eq x n) (Some N.Part) (met n) (among seen n) refl (h n)

-- connections with a comma behind each
abbrev commas_size : List VConnection → ℕ
commas_size [] = 0
commas_size (c ∷ cs) = (5 + value_size c.value) + commas_size cs

record ConnectionsFit (t : Told) (start : Option ℕ) (size : ℕ) (tokens : List ℕ) : Type 0 where
  size_is : t.seen.size ≡ cap size
  found : t.seen.first ≡ earlier start (first tokens)

connections-fit : (cs : List VConnection) (ports : Env) (ps : List Port) (env : Env) (items : List VItem) (at k : ℕ) (t : Told) (seen : List Name) → PortsAre ports ps
    → t.seen.size ≡ cap k → Connected t.met seen
    → ConnectionsFit (connections_from cs ports env items (cap at) t) t.seen.first (k + commas_size cs) (connections_broken (around env items) ps seen cs (at + k))
connections-fit [] ports ps env items at k t seen are e h = record { size_is = e ∙ ap cap (omega arith); found = sym (earlier-none t.seen.first) }
connections-fit (c ∷ cs) ports ps env items at k t seen are e h =
    let a = around env items in
    let n = plus (cap at) t.seen.size in
    let n_is : n ≡ cap (at + k) = sum-of (cap at) t.seen.size at k refl e in
    let f = subst (λ m. ConnectedFits (connected (ports c.port) c.value env items m) (5 + value_size c.value) (R.connected a (port_named ps c.port) c.value (at + k))) (sym n_is)
    (one-fits (port_named ps c.port) (ports c.port) c.value env items (at + k) (are c.port)) in
    let one = connected (ports c.port) c.value env items n in
    let next : Told = record { seen = connection_added t.seen (mark (is_some (t.met c.port)) (plus n 1)) one; met = meets t.met c.port } in
    let rest = connections-fit cs ports ps env items at (k + (5 + value_size c.value)) next (c.port ∷ seen) are (sum-of t.seen.size one.size k (5 + value_size c.value) e f.size_is) (connected-more t.met seen c.port h) in
    let place : at + (k + (5 + value_size c.value)) ≡ (at + k) + (5 + value_size c.value) = omega arith in
    let again : mark (is_some (t.met c.port)) (plus n 1) ≡ first (only_if (among seen c.port) (suc (at + k))) =
    (λ i. mark (h c.port i) ((ap (λ m. plus m 1) n_is ∙ next-token (at + k)) i)) ∙ sym (first-if (among seen c.port) (suc (at + k))) in
    let x = first (only_if (among seen c.port) (suc (at + k))) in
    let y = first (R.connected a (port_named ps c.port) c.value (at + k)) in
    let tokens = connections_broken a ps (c.port ∷ seen) cs ((at + k) + (5 + value_size c.value)) in
    record {
      size_is = rest.size_is ∙ ap cap (omega arith);
      found =
          rest.found
          ∙ (λ i. earlier (earlier t.seen.first (earlier (again i) (f.found i))) (first (connections_broken a ps (c.port ∷ seen) cs (place i))))
          ∙ earlier-assoc t.seen.first (earlier x y) (first tokens)
          ∙ ap (earlier t.seen.first)
          (earlier-assoc x y (first tokens)
          ∙ ap (earlier x) (sym (first-append (R.connected a (port_named ps c.port) c.value (at + k)) tokens))
          ∙ sym (first-append (only_if (among seen c.port) (suc (at + k))) (R.connected a (port_named ps c.port) c.value (at + k) ++ tokens)));
    }

commas-less : (c : VConnection) (cs : List VConnection) → commas_size (c ∷ cs) ≡ connections_size (c ∷ cs) + 1
commas-less c [] = omega arith
commas-less c (d ∷ cs) = let h = commas-less d cs in omega (arith, h)

tokens-of : (cs : List VConnection) (n : ℕ) → n ≡ cap (commas_size cs) → instance_tokens n (has_some cs) ≡ cap (5 + connections_size cs)
tokens-of [] n e = refl
tokens-of (c ∷ cs) n e = sum-of 4 n 4 (commas_size (c ∷ cs)) refl e ∙ ap cap (ap (λ m. 4 + m) (commas-less c cs) ∙ last_sum (connections_size (c ∷ cs)))
  where
    last_sum : (m : ℕ) → 4 + (m + 1) ≡ 5 + m
    last_sum m = omega arith

pub record InstanceFits (s : StmtSeen) (i : VInstance) (ps : List Port) (a : Around) (at : ℕ) : Type 0 where
  pub size_is : s.size ≡ cap (5 + connections_size i.connections)
  pub found : s.first ≡ first (connections_broken a ps [] i.connections (at + 3))

pub instance-fits : (i : VInstance) (ports : Env) (ps : List Port) (env : Env) (items : List VItem) (at : ℕ) → PortsAre ports ps → InstanceFits (instance_seen i ports env items (cap at)) i ps (around env items) at
instance-fits i ports ps env items at are =
    let cs = i.connections in
    let t = connections_from cs ports env items (plus (cap at) 3) (none_connected nothing) in
    let zero_at : (at + 3) + 0 ≡ at + 3 = omega arith in
    let zero_size : 0 + commas_size cs ≡ commas_size cs = omega arith in
    let k = subst (λ n. ConnectionsFit (connections_from cs ports env items n (none_connected nothing)) None (commas_size cs) (connections_broken (around env items) ps [] cs (at + 3))) (sym (plus-cap at 3))
    (subst (λ n. ConnectionsFit (connections_from cs ports env items (cap (at + 3)) (none_connected nothing)) None n (connections_broken (around env items) ps [] cs (at + 3))) zero_size
    (subst (λ n. ConnectionsFit (connections_from cs ports env items (cap (at + 3)) (none_connected nothing)) None (0 + commas_size cs) (connections_broken (around env items) ps [] cs n)) zero_at
    (connections-fit cs ports ps env items (at + 3) 0 (none_connected nothing) [] are refl (λ n. refl)))) in
    record { size_is = tokens-of cs t.seen.size k.size_is; found = k.found ∙ none-earlier (first (connections_broken (around env items) ps [] cs (at + 3))) }
