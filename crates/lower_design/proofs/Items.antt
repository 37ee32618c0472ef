-- The signals, initial values and processes of the items that are made.
use Rattle.std.proofs.Common.{◌≡◌, ℕ, zero, suc, ◌+◌, ◌==◌, ◌<◌, ◌≤◌, Bool, true, false, cond, List, [], ◌∷◌, ◌++◌, map, filter, length, Some, None, refl, sym, ap, subst, ◌∙◌, inl, inr, arith, append_assoc, append-nil}
use Rattle.std.specs.List.{slice_get, list_any}
use Rattle.std.specs.Str.{bytes_eq}
use Rattle.std.proofs.lemmas.Bool.{false≢true, eqb-true}
use Rattle.b4_core.specs.declared.bit.Bit4.TheVariants.{Zero}
use Rattle.row_machine.specs.Valuation.{Member}
use Rattle.row_machine.proofs.Members.{append-member, map-member}
use Rattle.sv_core.specs.declared.design.SignalKind.{SignalKind}
use Rattle.sv_core.specs.declared.design.SignalKind.TheVariants.{InputNet, OutputVar, Variable}
use Rattle.sv_core.specs.declared.design.Signal.{Signal}
use Rattle.sv_core.specs.declared.design.Process.{Process}
use Rattle.sv_core.specs.declared.design.Design.{Design}
use Rattle.sv_core.specs.Statements.{width_of, width_or_zero}
use Rattle.v_tree.specs.Names.{Name, distinct}
use Rattle.v_tree.specs.Rules.{Port, ports_of, instantiated}
use Rattle.v_tree.specs.declared.items.VItem.{VItem}
use Rattle.v_tree.specs.declared.items.VItem.TheVariants as I
use Rattle.v_tree.specs.declared.items.VModule.{VModule}
use Rattle.v_meaning.specs.Scopes.{Named, Scope, bits_of_range, named}
use Rattle.v_meaning.specs.Functions.{callees}
use Rattle.v_meaning.specs.Modules as T
use Rattle.v_meaning.specs.Modules.{Kind, input_net, net, variable, vector, signal, signals, functions, numbered, items_of, scope_of, process_of, InitialValue, Parts, Child, children, processes, initials, joined_parts, own_parts, parts, parts_from, signal_count}
use Rattle.lower_design.specs.Translatable.{Translatable, is_helper_name, path_of}
use Rattle.lower_design.specs.Shape.{name_of, path_or_nothing, trigger, is_port}
use Rattle.lower_design.specs.Lowered.{range_of, lowered_process, process_items, is_driven, declaration_of, declarations, is_triggered, trigger_items, lowered_items, lowered}
use Rattle.lower_design.proofs.Names.{true_or_false, same_bytes, differ_bytes, pick_true, pick_false, member-at, first_fresh, rest_distinct, distinct_more}
use Rattle.lower_design.proofs.Meanings.{Found}

-- the image of a signal
abbrev pub kind_of : SignalKind → Bool → Kind
kind_of InputNet driven = input_net
kind_of OutputVar true = net
kind_of OutputVar false = variable
kind_of Variable true = net
kind_of Variable false = variable

abbrev pub image_of : Bool → Signal → T.Signal
image_of driven s = vector (range_of s.width) s.path (kind_of s.kind driven)

abbrev pub images : (ℕ → Bool) → ℕ → List Signal → List T.Signal
images driven k [] = []
images driven k (s ∷ rest) = image_of (driven k) s ∷ images driven (suc k) rest

-- the trigger, where there is one
abbrev pub trigger_signal : T.Signal
trigger_signal = vector None trigger variable

abbrev pub helpers : Bool → List T.Signal
helpers true = trigger_signal ∷ []
helpers false = []

abbrev pub values : Scope → Bool → List InitialValue
values sc true = record { number = (named sc.names trigger).number; value = Zero ∷ [] } ∷ []
values sc false = []

abbrev pub has_comb : List Process → Bool
has_comb ps = list_any (λ (p : Process). is_triggered p.kind) ps

-- the target's processes
abbrev pub target : Scope → List Signal → Process → T.Process
target sc all p = process_of sc (lowered_process all p)

-- a declaration declares the image
declares : (s : Signal) (driven : Bool) → signal (declaration_of driven s) ≡ image_of driven s
declares s driven = by_kind s.path s.width s.kind driven
  where
    by_kind : (path : Name) (width : ℕ) (kind : SignalKind) (driven : Bool) → (let s : Signal = record { path = path; width = width; kind = kind } in signal (declaration_of driven s) ≡ image_of driven s)
    by_kind path width InputNet driven = refl
    by_kind path width OutputVar true = refl
    by_kind path width OutputVar false = refl
    by_kind path width Variable true = refl
    by_kind path width Variable false = refl

-- What a list of items gives that is no signal's: nothing of declarations and the trigger but its initial value.
declared-signals : (driven : ℕ → Bool) (k : ℕ) (ss : List Signal) (rest : List VItem) → signals (declarations driven k ss ++ rest) ≡ images driven k ss ++ signals rest
declared-signals driven k [] rest = refl
declared-signals driven k (s ∷ ss) rest = λ i. declares s (driven k) i ∷ declared-signals driven (suc k) ss rest i

declared-functions : (driven : ℕ → Bool) (k : ℕ) (ss : List Signal) (rest : List VItem) → functions (declarations driven k ss ++ rest) ≡ functions rest
declared-functions driven k [] rest = refl
declared-functions driven k (s ∷ ss) rest = declared-functions driven (suc k) ss rest

declared-instances : (driven : ℕ → Bool) (k : ℕ) (ss : List Signal) (rest : List VItem) → instantiated (declarations driven k ss ++ rest) ≡ instantiated rest
declared-instances driven k [] rest = refl
declared-instances driven k (s ∷ ss) rest = declared-instances driven (suc k) ss rest

declared-children : (count : Name → ℕ) (n : ℕ) (driven : ℕ → Bool) (k : ℕ) (ss : List Signal) (rest : List VItem) → children count n (declarations driven k ss ++ rest) ≡ children count n rest
declared-children count n driven k [] rest = refl
declared-children count n driven k (s ∷ ss) rest = declared-children count n driven (suc k) ss rest

declared-processes : (ms : List VModule) (count : Name → ℕ) (sc : Scope) (n : ℕ) (driven : ℕ → Bool) (k : ℕ) (ss : List Signal) (rest : List VItem)
    → processes ms count sc n (declarations driven k ss ++ rest) ≡ processes ms count sc n rest
declared-processes ms count sc n driven k [] rest = refl
declared-processes ms count sc n driven k (s ∷ ss) rest = declared-processes ms count sc n driven (suc k) ss rest

declared-initials : (sc : Scope) (driven : ℕ → Bool) (k : ℕ) (ss : List Signal) (rest : List VItem) → initials sc (declarations driven k ss ++ rest) ≡ initials sc rest
declared-initials sc driven k [] rest = refl
declared-initials sc driven k (s ∷ ss) rest = declared-initials sc driven (suc k) ss rest

-- processes declare nothing
process-signals : (all : List Signal) (ps : List Process) → signals (process_items all ps) ≡ []
process-signals all [] = refl
process-signals all (p ∷ ps) = process-signals all ps

process-functions : (all : List Signal) (ps : List Process) → functions (process_items all ps) ≡ []
process-functions all [] = refl
process-functions all (p ∷ ps) = process-functions all ps

process-instances : (all : List Signal) (ps : List Process) → instantiated (process_items all ps) ≡ []
process-instances all [] = refl
process-instances all (p ∷ ps) = process-instances all ps

process-children : (count : Name → ℕ) (n : ℕ) (all : List Signal) (ps : List Process) → children count n (process_items all ps) ≡ []
process-children count n all [] = refl
process-children count n all (p ∷ ps) = process-children count n all ps

process-processes : (ms : List VModule) (count : Name → ℕ) (sc : Scope) (n : ℕ) (all : List Signal) (ps : List Process) → processes ms count sc n (process_items all ps) ≡ map (target sc all) ps
process-processes ms count sc n all [] = refl
process-processes ms count sc n all (p ∷ ps) = ap (λ xs. target sc all p ∷ xs) (process-processes ms count sc n all ps)

process-initials : (sc : Scope) (all : List Signal) (ps : List Process) → initials sc (process_items all ps) ≡ []
process-initials sc all [] = refl
process-initials sc all (p ∷ ps) = process-initials sc all ps

process-ports : (all : List Signal) (ps : List Process) (at : ℕ) → ports_of (process_items all ps) at ≡ []
process-ports all [] at = refl
process-ports all (p ∷ ps) at = process-ports all ps _

-- the trigger's part
trigger-signals : (b : Bool) (rest : List VItem) → signals (trigger_items b ++ rest) ≡ helpers b ++ signals rest
trigger-signals true rest = refl
trigger-signals false rest = refl

trigger-functions : (b : Bool) (rest : List VItem) → functions (trigger_items b ++ rest) ≡ functions rest
trigger-functions true rest = refl
trigger-functions false rest = refl

trigger-instances : (b : Bool) (rest : List VItem) → instantiated (trigger_items b ++ rest) ≡ instantiated rest
trigger-instances true rest = refl
trigger-instances false rest = refl

trigger-children : (count : Name → ℕ) (n : ℕ) (b : Bool) (rest : List VItem) → children count n (trigger_items b ++ rest) ≡ children count n rest
trigger-children count n true rest = refl
trigger-children count n false rest = refl

trigger-processes : (ms : List VModule) (count : Name → ℕ) (sc : Scope) (n : ℕ) (b : Bool) (rest : List VItem) → processes ms count sc n (trigger_items b ++ rest) ≡ processes ms count sc n rest
trigger-processes ms count sc n true rest = refl
trigger-processes ms count sc n false rest = refl

trigger-initials : (sc : Scope) (b : Bool) (rest : List VItem) → initials sc (trigger_items b ++ rest) ≡ values sc b ++ initials sc rest
trigger-initials sc true rest = refl
trigger-initials sc false rest = refl

-- the ports are the source's

names-of-ports : (driven : ℕ → Bool) (b : Bool) (k : ℕ) (ss all : List Signal) (ps : List Process) (at : ℕ)
    → map (λ (p : Port). p.name) (ports_of (declarations driven k ss ++ (trigger_items b ++ process_items all ps)) at) ≡ map path_of (filter (λ (s : Signal). is_port s.kind) ss)
names-of-ports driven true k [] all ps at = ap (map (λ (p : Port). p.name)) (process-ports all ps _)
names-of-ports driven false k [] all ps at = ap (map (λ (p : Port). p.name)) (process-ports all ps _)
names-of-ports driven b k (s ∷ ss) all ps at = by_kind (declarations driven (suc k) ss ++ (trigger_items b ++ process_items all ps)) s.path s.width s.kind (driven k) (λ next. names-of-ports driven b (suc k) ss all ps next)
  where
    by_kind : (rest : List VItem) (path : Name) (width : ℕ) (kind : SignalKind) (driven : Bool)
        → ((next : ℕ) → map (λ (p : Port). p.name) (ports_of rest next) ≡ map path_of (filter (λ (s : Signal). is_port s.kind) ss))
        → (let s : Signal = record { path = path; width = width; kind = kind } in
        map (λ (p : Port). p.name) (ports_of (I.Signal (declaration_of driven s) ∷ rest) at) ≡ map path_of (filter (λ (s : Signal). is_port s.kind) (s ∷ ss)))
    by_kind rest path width InputNet driven more = ap (λ ns. path ∷ ns) (more _)
    by_kind rest path width OutputVar true more = ap (λ ns. path ∷ ns) (more _)
    by_kind rest path width OutputVar false more = ap (λ ns. path ∷ ns) (more _)
    by_kind rest path width Variable true more = more _
    by_kind rest path width Variable false more = more _

module _ (ss : List Signal) (ps : List Process) where
  abbrev b : Bool
  b = has_comb ps

  abbrev rest : List VItem
  rest = process_items ss ps

  pub in-three : lowered_items ss ps ≡ declarations (is_driven ps) 0 ss ++ (trigger_items b ++ rest)
  in-three = append_assoc (declarations (is_driven ps) 0 ss) (trigger_items b) rest

  -- the signals of the target
  abbrev pub targets : List T.Signal
  targets = images (is_driven ps) 0 ss ++ helpers b

  pub all-signals : signals (lowered_items ss ps) ≡ targets
  all-signals =
      ap signals in-three ∙ declared-signals (is_driven ps) 0 ss (trigger_items b ++ rest)
      ∙ ap (λ xs. images (is_driven ps) 0 ss ++ xs) (trigger-signals b rest ∙ ap (λ xs. helpers b ++ xs) (process-signals ss ps) ∙ append-nil (helpers b))

  pub all-functions : functions (lowered_items ss ps) ≡ []
  all-functions = ap functions in-three ∙ declared-functions (is_driven ps) 0 ss (trigger_items b ++ rest) ∙ trigger-functions b rest ∙ process-functions ss ps

  pub all-instances : instantiated (lowered_items ss ps) ≡ []
  all-instances = ap instantiated in-three ∙ declared-instances (is_driven ps) 0 ss (trigger_items b ++ rest) ∙ trigger-instances b rest ∙ process-instances ss ps

  all-children : (count : Name → ℕ) (n : ℕ) → children count n (lowered_items ss ps) ≡ []
  all-children count n =
      ap (children count n) in-three ∙ declared-children count n (is_driven ps) 0 ss (trigger_items b ++ rest) ∙ trigger-children count n b rest ∙ process-children count n ss ps

  all-processes : (ms : List VModule) (count : Name → ℕ) (sc : Scope) (n : ℕ) → processes ms count sc n (lowered_items ss ps) ≡ map (target sc ss) ps
  all-processes ms count sc n =
      ap (processes ms count sc n) in-three ∙ declared-processes ms count sc n (is_driven ps) 0 ss (trigger_items b ++ rest)
      ∙ trigger-processes ms count sc n b rest ∙ process-processes ms count sc n ss ps

  all-initials : (sc : Scope) → initials sc (lowered_items ss ps) ≡ values sc b
  all-initials sc =
      ap (initials sc) in-three ∙ declared-initials sc (is_driven ps) 0 ss (trigger_items b ++ rest)
      ∙ trigger-initials sc b rest ∙ ap (λ xs. values sc b ++ xs) (process-initials sc ss ps) ∙ append-nil (values sc b)

  pub all-ports : (at : ℕ) → map (λ (p : Port). p.name) (ports_of (lowered_items ss ps) at) ≡ map path_of (filter (λ (s : Signal). is_port s.kind) ss)
  all-ports at = ap (λ is. map (λ (p : Port). p.name) (ports_of is at)) in-three ∙ names-of-ports (is_driven ps) b 0 ss ss ps at

  -- what the names stand for
  abbrev pub scope : Scope
  scope = record { names = numbered 0 targets; next = 0; callee = callees (numbered 0 targets) [] }

  pub scope-is : scope_of 0 (lowered_items ss ps) ≡ scope
  scope-is = λ i. record { names = numbered 0 (all-signals i); next = 0; callee = callees (numbered 0 (all-signals i)) (all-functions i) }

  -- the signals and processes of the one instance
  abbrev pub own : Parts
  own = record { signals = targets; processes = map (target scope ss) ps; initials = values scope b }

  own-is : (ms : List VModule) (count : Name → ℕ) → own_parts ms count 0 (lowered_items ss ps) ≡ own
  own-is ms count =
      (λ i. record {
        signals = all-signals i;
        processes = all-processes ms count (scope-is i) (0 + length (signals (lowered_items ss ps))) i;
        initials = all-initials (scope-is i) i;
      })

  alone : joined_parts (own ∷ []) ≡ own
  alone = λ i. record { signals = append-nil targets i; processes = append-nil (map (target scope ss) ps) i; initials = append-nil (values scope b) i }

  pub parts-are : (ms : List VModule) (depth : ℕ) (top : Name) → items_of ms top ≡ lowered_items ss ps → parts_from (suc depth) ms 0 top ≡ own
  unfolding parts_from
  parts-are ms depth top e =
      ap (λ is. joined_parts (own_parts ms (signal_count depth ms) 0 is
      ∷ map (λ (c : Child). parts_from depth ms c.first c.of) (children (signal_count depth ms) (0 + length (signals is)) is))) e
      ∙ (λ i. joined_parts (own-is ms (signal_count depth ms) i
      ∷ map (λ (c : Child). parts_from depth ms c.first c.of) (all-children (signal_count depth ms) (0 + length (signals (lowered_items ss ps))) i)))
      ∙ alone

-- the items of the top, and its parts
pub top-items : (d : Design) → items_of (lowered d).modules d.top ≡ lowered_items d.signals d.processes
top-items d = ap (λ b. cond b (lowered_items d.signals d.processes) []) (same_bytes d.top)

pub top-parts : (d : Design) → parts (lowered d).modules d.top ≡ own d.signals d.processes
top-parts d = parts-are d.signals d.processes (lowered d).modules 0 d.top (top-items d)

-- a declared range gives back the width
pub range_keeps : (w : ℕ) → 1 ≤ w → bits_of_range (range_of w) ≡ w
range_keeps w h = elim (true_or_false (w == 1)) [
  | inl e ↦ ap bits_of_range (pick_true (w == 1) _ _ e) ∙ sym (eqb-true w 1 e)
  | inr e ↦ ap bits_of_range (pick_false (w == 1) _ _ e) ∙ omega arith
]

pub image-at : (driven : ℕ → Bool) (k : ℕ) (ss : List Signal) (more : List T.Signal) (n : ℕ) (s : Signal) → slice_get ss n ≡ Some s
    → slice_get (images driven k ss ++ more) n ≡ Some (image_of (driven (k + n)) s)
image-at driven k [] more n s e = cc
image-at driven k (t ∷ ss) more zero s e =
    let same : t ≡ s = cc in
    let index : k ≡ k + 0 = omega arith in
    λ i. Some (image_of (driven (index i)) (same i))
image-at driven k (t ∷ ss) more (suc n) s e =
    let index : suc k + n ≡ k + suc n = omega arith in
    image-at driven (suc k) ss more n s e ∙ ap (λ j. Some (image_of (driven j) s)) index

pub behind-images : (driven : ℕ → Bool) (k : ℕ) (ss : List Signal) (t : T.Signal) → slice_get (images driven k ss ++ t ∷ []) (length ss) ≡ Some t
behind-images driven k [] t = refl
behind-images driven k (s ∷ ss) t = behind-images driven (suc k) ss t

abbrev pub signal_name : T.Signal → Name
signal_name s = s.name

pub image-names : (driven : ℕ → Bool) (k : ℕ) (ss : List Signal) (more : List T.Signal) → map signal_name (images driven k ss ++ more) ≡ map path_of ss ++ map signal_name more
image-names driven k [] more = refl
image-names driven k (s ∷ ss) more = ap (λ ns. s.path ∷ ns) (image-names driven (suc k) ss more)

pub distinct-behind : (ns : List Name) (n : Name) → distinct ns ≡ true → (Member ns n → ⊥) → distinct (ns ++ n ∷ []) ≡ true
distinct-behind [] n d fresh = refl
distinct-behind (m ∷ ns) n d fresh =
    distinct_more m (ns ++ n ∷ []) (λ k. elim (append-member ns (n ∷ []) m k) [
      | inl l ↦ first_fresh m ns d l
      | inr l ↦ elim l [ inl e ↦ fresh (inl (sym e)) | inr z ↦ elim z [ ] ]
    ]) (distinct-behind ns n (rest_distinct m ns d) (λ k. fresh (inr k)))

-- what a look-up among distinct names finds
abbrev pub as_named : ℕ → T.Signal → Named
as_named n s = record { name = s.name; number = n; width = s.width; words = s.words }

first_differs : (t : T.Signal) (ts : List T.Signal) (s : T.Signal) → distinct (map signal_name (t ∷ ts)) ≡ true → Member ts s → bytes_eq t.name s.name ≡ false
first_differs t ts s d m =
    differ_bytes t.name s.name (λ e. first_fresh t.name (map signal_name ts) d (subst (λ n. Member (map signal_name ts) n) (sym e) (is_named ts m)))
  where
    is_named : (us : List T.Signal) → Member us s → Member (map signal_name us) s.name
    is_named [] k = elim k [ ]
    is_named (u ∷ us) (inl e) = inl (ap signal_name e)
    is_named (u ∷ us) (inr k) = inr (is_named us k)

pub named-found : (k : ℕ) (us : List T.Signal) → distinct (map signal_name us) ≡ true → (n : ℕ) (s : T.Signal) → slice_get us n ≡ Some s → named (numbered k us) s.name ≡ as_named (k + n) s
named-found k [] d n s e = cc
named-found k (t ∷ us) d zero s e =
    let same : t ≡ s = cc in
    let index : k ≡ k + 0 = omega arith in
    ap (λ b. cond b (as_named k t) (named (numbered (suc k) us) s.name)) (subst (λ (x : T.Signal). bytes_eq t.name x.name ≡ true) same (same_bytes t.name))
    ∙ (λ i. as_named (index i) (same i))
named-found k (t ∷ us) d (suc n) s e =
    let index : suc k + n ≡ k + suc n = omega arith in
    ap (λ b. cond b (as_named k t) (named (numbered (suc k) us) s.name)) (first_differs t us s d (member-at us n s e))
    ∙ named-found (suc k) us (rest_distinct t.name (map signal_name us) d) n s e ∙ ap (λ j. as_named j s) index

pub get-below : (ss : List Signal) (n : ℕ) → n < length ss → (s : Signal) × (slice_get ss n ≡ Some s)
get-below [] n h = absurd (omega arith)
get-below (s ∷ ss) zero h = (s, refl)
get-below (s ∷ ss) (suc n) h = get-below ss n (omega arith)

pub below-get : (ss : List Signal) (n : ℕ) (s : Signal) → slice_get ss n ≡ Some s → n < length ss
below-get [] n s e = cc
below-get (t ∷ ss) zero s e = omega arith
below-get (t ∷ ss) (suc n) s e = let r = below-get ss n s e in omega (arith, r)

module _ (d : Design) (t : Translatable d) where
  abbrev pub us : List T.Signal
  us = targets d.signals d.processes

  abbrev pub sc : Scope
  sc = scope d.signals d.processes

  -- no signal has the trigger's name
  pub trigger-fresh : Member (map path_of d.signals) trigger → ⊥
  trigger-fresh m =
      let r = map-member path_of d.signals trigger m in
      let is : is_helper_name trigger ≡ false = ap is_helper_name r.2 ∙ t.own r.0 r.1 in
      false≢true (sym is)

  -- the names of the target's signals are distinct
  pub names-distinct : distinct (map signal_name us) ≡ true
  names-distinct = ap distinct (image-names (is_driven d.processes) 0 d.signals (helpers (has_comb d.processes))) ∙ with_helpers (has_comb d.processes)
    where
      with_helpers : (b : Bool) → distinct (map path_of d.signals ++ map signal_name (helpers b)) ≡ true
      with_helpers true = distinct-behind (map path_of d.signals) trigger t.names trigger-fresh
      with_helpers false = ap distinct (append-nil (map path_of d.signals)) ∙ t.names

  -- the image of a signal, by its number
  pub image-there : (n : ℕ) (s : Signal) → slice_get d.signals n ≡ Some s → slice_get us n ≡ Some (image_of (is_driven d.processes n) s)
  image-there n s e =
      let index : 0 + n ≡ n = omega arith in
      image-at (is_driven d.processes) 0 d.signals (helpers (has_comb d.processes)) n s e ∙ ap (λ k. Some (image_of (is_driven d.processes k) s)) index

  pub found-at : (n : ℕ) (s : Signal) → slice_get d.signals n ≡ Some s → Found d.signals sc n
  found-at n s e =
      let path : name_of d.signals n ≡ s.path = ap path_or_nothing e in
      let wide : width_of d.signals n ≡ s.width = ap width_or_zero e in
      let index : 0 + n ≡ n = omega arith in
      let keeps = range_keeps s.width (t.some_bits s (member-at d.signals n s e)) in
      ap (named sc.names) path ∙ named-found 0 us names-distinct n (image_of (is_driven d.processes n) s) (image-there n s e)
      ∙ (λ i. record { name = sym path i; number = index i; width = (keeps ∙ sym wide) i; words = None })

  pub found-below : (n : ℕ) → n < length d.signals → Found d.signals sc n
  found-below n h = let r = get-below d.signals n h in found-at n r.0 r.1

  -- the trigger is the last signal
  pub trigger-there : has_comb d.processes ≡ true → slice_get us (length d.signals) ≡ Some trigger_signal
  trigger-there e =
      (λ i. slice_get (images (is_driven d.processes) 0 d.signals ++ helpers (e i)) (length d.signals)) ∙ behind-images (is_driven d.processes) 0 d.signals trigger_signal

  pub trigger-found : has_comb d.processes ≡ true → named sc.names trigger ≡ as_named (length d.signals) trigger_signal
  trigger-found e =
      let index : 0 + length d.signals ≡ length d.signals = omega arith in
      named-found 0 us names-distinct (length d.signals) trigger_signal (trigger-there e) ∙ ap (λ k. as_named k trigger_signal) index
