-- What plain names join is reached from the inputs of the top along the links that are found.
use Rattle.std.proofs.Common.{◌≡◌, inl, inr, ℕ, zero, suc, ◌+◌, ◌<◌, ◌^◌, ◌/◌, Bool, true, false, ◌&&◌, ◌||◌, ◌==◌, cond, List, [], ◌∷◌, length, map, replicate, Option, Some, None, refl, ap, sym, ◌∙◌, subst, arith}
use Rattle.std.specs.Prelude.{slice_get, slice_index_or, nat_lt}
use Rattle.std.specs.List.{list_any}
use Rattle.std.proofs.lemmas.Bool.{and_parts, and_from, or_cases, or_left, or_right, eqb-true, eq-eqb, ltb-true, false≢true, cases_Bool}
use Rattle.std.proofs.lemmas.Bool.Decides.{nat_tests}
use Rattle.std.proofs.lemmas.Nat.{div-mul-add}
use Rattle.std.proofs.lemmas.Option.{slice_get_within, slice_get-get_or}
use Rattle.row_machine.specs.Valuation.{Member}
use Rattle.row_machine.proofs.Basics.{any-member, member-any}
use Rattle.sv_types.specs.declared.design.Design.{Design}
use Rattle.sv_types.specs.declared.design.Process.{Process}
use Rattle.sv_types.specs.declared.design.ProcessKind.{ProcessKind}
use Rattle.sv_types.specs.declared.design.ProcessKind.TheVariants as K
use Rattle.sv_types.specs.declared.design.Signal.{Signal}
use Rattle.sv_types.specs.Surroundings as S
use Rattle.sv_types.specs.Flows.{uses_of}
use Rattle.sv_types.specs.Layouts.{width_of}
use Rattle.sv_types.specs.Machine.{is_input}
use Rattle.flow_sets.specs.declared.found.Found.{Found}
use Rattle.flow_sets.specs.Bits.{position, span_of, write_of, AllShort}
use Rattle.flow_sets.specs.Flows.{IsFlow}
use Rattle.flow_sets.proofs.Positions.{short-more}
use Rattle.design_breaks.specs.Memories.{flow}
use Rattle.design_breaks.specs.Breaks as B
use Rattle.flow_breaks.specs.Pieces.{AreFound, IsFoundOf}
use Rattle.flow_breaks.proofs.Lists.{member-flat, flat-member, member-if, if-member}
use Rattle.break_laws.proofs.Lists.{there, somewhere}
use Rattle.reach_marks.specs.Reach.{reaches, list_at, IsReached}
use Rattle.reach_marks.proofs.Leading.{reaches-root, reaches-next, reaches-zero, reaches-suc}
use Rattle.edge_breaks.specs.declared.links.Link.{Link}
use Rattle.edge_breaks.specs.Links.{plain_name, is_of_port, writes_port, named, link_to, link_by, all_links, is_root, roots_from}
use Rattle.edge_breaks.specs.Joins.{LinksStand, AreJoined}
use Rattle.edge_breaks.proofs.Following.{LinkIn, links-into, links-add, length-links, none-follow, length-none}

-- writes of a port
abbrev port_use : ℕ → S.Use → Bool
port_use n u = (u.number == n) && nat_lt u.low u.high

some-bits : (n low high : ℕ) → nat_lt (position n low) (position n high) ≡ nat_lt low high
some-bits n low high = grind (arith, nat_tests)

and-none : (a b : Bool) → (a && false) ≡ (b && false)
and-none true true = refl
and-none true false = refl
and-none false true = refl
and-none false false = refl

port-agrees : (n : ℕ) (u : S.Use) → u.high < 2 ^ 32 → is_of_port n (span_of u) ≡ port_use n u
port-agrees n u short = elim (cases_Bool (nat_lt u.low u.high)) [
  | inl some ↦ (let low = ltb-true u.low u.high some in
      ap (λ b. ((span_of u).low / 2 ^ 32 == n) && b) (some-bits u.number u.low u.high)
      ∙ ap (λ k. (k == n) && nat_lt u.low u.high) (div-mul-add u.number (2 ^ 32) u.low (omega (arith, short, low))))
  | inr none ↦
      ap (λ b. ((span_of u).low / 2 ^ 32 == n) && b) (some-bits u.number u.low u.high ∙ none)
      ∙ and-none ((span_of u).low / 2 ^ 32 == n) (u.number == n)
      ∙ sym (ap (λ b. (u.number == n) && b) none)
]

port-written : (n : ℕ) (ws : List S.Write) → AllShort (uses_of ws) → writes_port n (map write_of ws) ≡ list_any (port_use n) (uses_of ws)
port-written n [] short = refl
port-written n (w ∷ ws) short =
    let more = short-more w.of (uses_of ws) short in
    ap (λ b. b || writes_port n (map write_of ws)) (port-agrees n w.of more.0) ∙ ap (λ b. port_use n w.of || b) (port-written n ws more.1)

-- inputs of the top
roots-in : (k : ℕ) (ss : List Signal) (n : ℕ) → Member (roots_from k ss) n → (j : ℕ) × (s : Signal) × (n ≡ k + j) × (slice_get ss j ≡ Some s) × (is_root s ≡ true)
roots-in k [] n m = elim m [ ]
roots-in k (s ∷ ss) n m = by (λ h. roots-in (suc k) ss n h) (is_root s) refl m
  where
    more : (j : ℕ) × (t : Signal) × (n ≡ suc k + j) × (slice_get ss j ≡ Some t) × (is_root t ≡ true) → (j : ℕ) × (t : Signal) × (n ≡ k + j) × (slice_get (s ∷ ss) j ≡ Some t) × (is_root t ≡ true)
    more r = let at = r.2 in (suc r.0, r.1, omega (arith, at), r.3, r.4)

    by : (Member (roots_from (suc k) ss) n → (j : ℕ) × (t : Signal) × (n ≡ suc k + j) × (slice_get ss j ≡ Some t) × (is_root t ≡ true))
        → (b : Bool) → is_root s ≡ b → Member (cond b (k ∷ roots_from (suc k) ss) (roots_from (suc k) ss)) n → (j : ℕ) × (t : Signal) × (n ≡ k + j) × (slice_get (s ∷ ss) j ≡ Some t) × (is_root t ≡ true)
    by rest true is (inl here) = (0, s, omega (arith, here), refl, is)
    by rest true is (inr h) = more (rest h)
    by rest false is h = more (rest h)

in-roots : (k : ℕ) (ss : List Signal) (j : ℕ) (s : Signal) → slice_get ss j ≡ Some s → is_root s ≡ true → Member (roots_from k ss) (k + j)
in-roots k [] j s h is = cc
in-roots k (t ∷ ss) zero s h is =
    let same : t ≡ s = cc in
    let at : k + 0 ≡ k = omega arith in
    subst (λ b. Member (cond b (k ∷ roots_from (suc k) ss) (roots_from (suc k) ss)) (k + 0)) (sym (ap is_root same ∙ is)) (inl at)
in-roots k (t ∷ ss) (suc j) s h is =
    let at : suc k + j ≡ k + suc j = omega arith in
    by (is_root t) (subst (Member (roots_from (suc k) ss)) at (in-roots (suc k) ss j s h is))
  where
    by : (b : Bool) → Member (roots_from (suc k) ss) (k + suc j) → Member (cond b (k ∷ roots_from (suc k) ss) (roots_from (suc k) ss)) (k + suc j)
    by true m = inr m
    by false m = m

some-is : {A : Type 0} (x y : A) (o : Option A) → o ≡ Some x → o ≡ Some y → x ≡ y
some-is x y o h g = cc

same-test : (a b : Bool) → (a ≡ true → b ≡ true) → (b ≡ true → a ≡ true) → a ≡ b
same-test true b f g = sym (f refl)
same-test false true f g = g refl
same-test false false f g = refl

link-parts : (k : ProcessKind) (p : Process) (f : Option Found) (m n : ℕ) → link_by k p f ≡ Some (record { from = m; to = n })
    → (g : Found) × (k ≡ K.Link n) × (f ≡ Some g) × (writes_port n g.writes ≡ true) × (plain_name p.body ≡ Some m)
link-parts K.Continuous p f m n is = cc
link-parts (K.Link j) p None m n is = cc
link-parts (K.Link j) p (Some g) m n is = by (writes_port j g.writes) refl is
  where
    ends : (o : Option ℕ) → named o j ≡ Some (record { from = m; to = n }) → (o ≡ Some m) × (j ≡ n)
    ends None h = cc
    ends (Some i) h =
        let same = some-is (record { from = i; to = j }) (record { from = m; to = n }) (Some (record { from = i; to = j })) refl h in
        (ap (λ (l : Link). Some l.from) same, ap (λ (l : Link). l.to) same)

    by : (b : Bool) → writes_port j g.writes ≡ b → cond b (named (plain_name p.body) j) None ≡ Some (record { from = m; to = n })
        → (h : Found) × (K.Link j ≡ K.Link n) × (Some g ≡ Some h) × (writes_port n h.writes ≡ true) × (plain_name p.body ≡ Some m)
    by true written h = let e = ends (plain_name p.body) h in (g, ap K.Link e.1, refl, subst (λ k. writes_port k g.writes ≡ true) e.1 written, e.0)
    by false written h = cc
link-parts K.Comb p f m n is = cc
link-parts K.Latch p f m n is = cc
link-parts K.Star p f m n is = cc
link-parts (K.Edges es) p f m n is = cc

parts-link : (k : ProcessKind) (p : Process) (f : Option Found) (g : Found) (m n : ℕ) → k ≡ K.Link n → f ≡ Some g → writes_port n g.writes ≡ true → plain_name p.body ≡ Some m
    → link_by k p f ≡ Some (record { from = m; to = n })
parts-link k p f g m n kind found written name =
    ap (λ (x : ProcessKind). link_by x p f) kind
    ∙ ap (λ (x : Option Found). link_to n p x) found
    ∙ ap (λ b. cond b (named (plain_name p.body) n) None) written
    ∙ ap (λ o. named o n) name

name-in : (o : Option ℕ) (m : ℕ) → Member (elim o [ None ↦ [] | Some k ↦ k ∷ [] ]) m → o ≡ Some m
name-in None m h = elim h [ ]
name-in (Some k) m h = elim h [ inl is ↦ ap Some (sym is) | inr none ↦ elim none [ ] ]

in-name : (o : Option ℕ) (m : ℕ) → o ≡ Some m → Member (elim o [ None ↦ [] | Some k ↦ k ∷ [] ]) m
in-name o m is = subst (λ x. Member (elim x [ None ↦ [] | Some k ↦ k ∷ [] ]) m) (sym is) (inl refl)

link-kind : (b : Bool) (n : ℕ) (k : ProcessKind) → elim k [ K.Link port ↦ (port == n) && b | other ↦ false ] ≡ true → (k ≡ K.Link n) × (b ≡ true)
link-kind b n K.Continuous h = absurd (false≢true h)
link-kind b n (K.Link port) h = let r = and_parts (port == n) b h in (ap K.Link (eqb-true port n r.0), r.1)
link-kind b n K.Comb h = absurd (false≢true h)
link-kind b n K.Latch h = absurd (false≢true h)
link-kind b n K.Star h = absurd (false≢true h)
link-kind b n (K.Edges es) h = absurd (false≢true h)

kind-link : (b : Bool) (n : ℕ) (k : ProcessKind) → k ≡ K.Link n → b ≡ true → elim k [ K.Link port ↦ (port == n) && b | other ↦ false ] ≡ true
kind-link b n k is h = ap (λ (x : ProcessKind). elim x [ K.Link port ↦ (port == n) && b | other ↦ false ]) is ∙ and_from (n == n) b (eq-eqb n n refl) h

module _ (d : Design) where
  abbrev is_top : ℕ → Bool
  is_top n = B.is_top_input d n && (B.width_at d n == 1)

  abbrev top_by : Option Signal → Bool
  top_by o = elim o [ None ↦ false | Some s ↦ (s.instance == 1) && is_input s.kind ] && (elim o [ None ↦ 0 | Some s ↦ width_of s.of ] == 1)

  top-some : (n : ℕ) (s : Signal) → slice_get d.signals n ≡ Some s → is_top n ≡ is_root s
  top-some n s h = ap top_by h

  top-signal : (n : ℕ) → is_top n ≡ true → (s : Signal) × (slice_get d.signals n ≡ Some s) × (is_root s ≡ true)
  top-signal n h = by (slice_get d.signals n) refl h
    where
      by : (o : Option Signal) → slice_get d.signals n ≡ o → top_by o ≡ true → (s : Signal) × (slice_get d.signals n ≡ Some s) × (is_root s ≡ true)
      by None is t = absurd (false≢true t)
      by (Some s) is t = (s, is, t)

  joined-zero : (n : ℕ) → B.is_joined d zero n ≡ is_top n
  unfolding B.is_joined
  joined-zero n = refl

  joined-suc : (depth n : ℕ) → B.is_joined d (suc depth) n ≡ (is_top n || list_any (λ m. B.is_joined d depth m) (B.sources d n))
  unfolding B.is_joined
  joined-suc depth n = refl

  pub record SourceOf (n m : ℕ) : Type 0 where
    pub process : Process
    pub stands : Member d.processes process
    pub links : B.is_link_to d n process ≡ true
    pub name : B.plain_name d process.body ≡ Some m

  source-of : (n m : ℕ) → Member (B.sources d n) m → SourceOf n m
  source-of n m h =
      let r = member-flat (λ (p : Process). B.only_if (B.is_link_to d n p) (elim (B.plain_name d p.body) [ None ↦ [] | Some k ↦ k ∷ [] ])) d.processes m h in
      let two = member-if (B.is_link_to d n r.0) (elim (B.plain_name d r.0.body) [ None ↦ [] | Some k ↦ k ∷ [] ]) m r.2 in
      record { process = r.0; stands = r.1; links = two.0; name = name-in (B.plain_name d r.0.body) m two.1 }

  of-source : (n m : ℕ) (p : Process) → Member d.processes p → B.is_link_to d n p ≡ true → B.plain_name d p.body ≡ Some m → Member (B.sources d n) m
  of-source n m p stands links name =
      flat-member (λ (q : Process). B.only_if (B.is_link_to d n q) (elim (B.plain_name d q.body) [ None ↦ [] | Some k ↦ k ∷ [] ])) d.processes p m stands
      (if-member (B.is_link_to d n p) (elim (B.plain_name d p.body) [ None ↦ [] | Some k ↦ k ∷ [] ]) m links (in-name (B.plain_name d p.body) m name))

  module _ (links : LinksStand d) (found : List (Option Found)) (are : AreFound d found) where
    abbrev nobody : List (List ℕ)
    nobody = replicate (length d.signals) []

    abbrev next : List (List ℕ)
    next = all_links nobody d.processes found

    abbrev roots : List ℕ
    roots = roots_from 0 d.signals

    long : length next ≡ length d.signals
    long = length-links nobody d.processes found ∙ length-none (length d.signals)

    port-is : (p : Process) (g : Found) (n : ℕ) → IsFlow g (flow d p) → writes_port n g.writes ≡ list_any (port_use n) (uses_of (flow d p).writes)
    port-is p g n flows = ap (writes_port n) flows.writes.same ∙ port-written n (flow d p).writes flows.writes.short

    edge-source : (m n : ℕ) → m < length d.signals → Member (list_at next m) n → Member (B.sources d n) m
    edge-source m n low h = elim (links-into nobody d.processes found m n (let all = length-none (length d.signals) in omega (arith, low, all)) h) [
      | inl old ↦ elim (subst (λ xs. Member xs n) (none-follow (length d.signals) m) old) [ ]
      | inr link ↦ made link (link-parts link.process.kind link.process link.found m n link.is)
    ]
      where
        made : (link : LinkIn d.processes found (record { from = m; to = n }))
            → (g : Found) × (link.process.kind ≡ K.Link n) × (link.found ≡ Some g) × (writes_port n g.writes ≡ true) × (plain_name link.process.body ≡ Some m) → Member (B.sources d n) m
        made link r =
            let flows : IsFoundOf d link.process (Some r.0) = subst (IsFoundOf d link.process) r.2 (are.each link.at link.process link.found link.stands link.finds) in
            of-source n m link.process (there d.processes link.at link.process link.stands)
            (kind-link (list_any (port_use n) (uses_of (flow d link.process).writes)) n link.process.kind r.1 (sym (port-is link.process r.0 n flows.1) ∙ r.3)) r.4

    source-edge : (m n : ℕ) → m < length d.signals → Member (B.sources d n) m → Member (list_at next m) n
    source-edge m n low h = by (source-of n m h)
      where
        at-place : (p : Process) (k : ℕ) → slice_get d.processes k ≡ Some p → p.kind ≡ K.Link n → list_any (port_use n) (uses_of (flow d p).writes) ≡ true → plain_name p.body ≡ Some m
            → B.unrolls d p.body ≡ true → (f : Option Found) → slice_get found k ≡ Some f → IsFoundOf d p f → Member (list_at next m) n
        at-place p k stands kind written name can None finds it = absurd (false≢true (sym it ∙ can))
        at-place p k stands kind written name can (Some g) finds it =
            links-add nobody d.processes found (record { from = m; to = n }) k p (Some g) (let all = length-none (length d.signals) in omega (arith, low, all)) stands finds
            (parts-link p.kind p (Some g) g m n kind refl (port-is p g n it.1 ∙ written) name)

        by : SourceOf n m → Member (list_at next m) n
        by s =
            let p = s.process in
            let k = somewhere d.processes p s.stands in
            let both = link-kind (list_any (port_use n) (uses_of (flow d p).writes)) n p.kind s.links in
            let within : k.0 < length found = (let a = slice_get_within d.processes k.0 p k.1 in let b = are.count in omega (arith, a, b)) in
            let f = slice_index_or found k.0 None in
            let finds : slice_get found k.0 ≡ Some f = slice_get-get_or found k.0 None within in
            at-place p k.0 k.1 both.0 both.1 s.name (links.unrolls p n m s.stands both.0 s.links s.name) f finds (are.each k.0 p f k.1 finds)

    source-low : (m n : ℕ) → Member (B.sources d n) m → n < length d.signals
    source-low m n h =
        let s = source-of n m h in
        let both = link-kind (list_any (port_use n) (uses_of (flow d s.process).writes)) n s.process.kind s.links in
        links.within s.process n s.stands both.0

    top-reached : (depth n : ℕ) → is_top n ≡ true → (n < length d.signals) × (reaches roots next depth n ≡ true)
    top-reached depth n h =
        let r = top-signal n h in
        let at : 0 + n ≡ n = omega arith in
        (slice_get_within d.signals n r.0 r.1, reaches-root roots next depth n (subst (Member roots) at (in-roots 0 d.signals n r.0 r.1 r.2)))

    root-top : (n : ℕ) → Member roots n → is_top n ≡ true
    root-top n m =
        let r = roots-in 0 d.signals n m in
        let at : r.0 ≡ n = (let is = r.2 in omega (arith, is)) in
        top-some n r.1 (subst (λ k. slice_get d.signals k ≡ Some r.1) at r.3) ∙ r.4

    joined-reached : (depth n : ℕ) → B.is_joined d depth n ≡ true → (n < length d.signals) × (reaches roots next depth n ≡ true)
    joined-reached zero n h = top-reached zero n (sym (joined-zero n) ∙ h)
    joined-reached (suc depth) n h = elim (or_cases (is_top n) (list_any (λ m. B.is_joined d depth m) (B.sources d n)) (sym (joined-suc depth n) ∙ h)) [
      | inl top ↦ top-reached (suc depth) n top
      | inr more ↦
          (let r = any-member (λ m. B.is_joined d depth m) (B.sources d n) more in
          let before = joined-reached depth r.0 r.2 in
          let low = before.0 in
          (source-low r.0 n r.1, reaches-next roots next depth r.0 n (let all = long in omega (arith, low, all)) before.1 (source-edge r.0 n low r.1)))
    ]

    reached-joined : (depth n : ℕ) → reaches roots next depth n ≡ true → B.is_joined d depth n ≡ true
    reached-joined zero n h = joined-zero n ∙ root-top n (reaches-zero roots next n h)
    reached-joined (suc depth) n h = elim (reaches-suc roots next depth n h) [
      | inl root ↦ joined-suc depth n ∙ or_left (is_top n) (list_any (λ m. B.is_joined d depth m) (B.sources d n)) (root-top n root)
      | inr r ↦
          (let low = r.1 in
          joined-suc depth n ∙ or_right (is_top n) (list_any (λ m. B.is_joined d depth m) (B.sources d n))
          (member-any (λ m. B.is_joined d depth m) (B.sources d n) r.0 (edge-source r.0 n (let all = long in omega (arith, low, all)) r.3) (reached-joined depth r.0 r.2)))
    ]

    are-joined : (marks : List Bool) → IsReached roots next marks → AreJoined d marks
    are-joined marks h = record {
      count = h.count ∙ long;
      each = λ n low.
          let all = long in
          h.each n (omega (arith, low, all)) ∙ ap (λ k. reaches roots next k n) long
          ∙ same-test (reaches roots next (length d.signals) n) (B.is_joined d (length d.signals) n) (reached-joined (length d.signals) n) (λ j. (joined-reached (length d.signals) n j).1);
    }

pub joined-law : (ss : List Signal) (ps : List Process) (found : List (Option Found)) (marks : List Bool) → IsReached (roots_from 0 ss) (all_links (replicate (length ss) []) ps found) marks
    → (d : Design) → ss ≡ d.signals → ps ≡ d.processes → AreFound d found → LinksStand d → AreJoined d marks
joined-law ss ps found marks h d s p are links =
    are-joined d links found are marks
    (subst (λ (xs : List Process). IsReached (roots_from 0 d.signals) (all_links (replicate (length d.signals) []) xs found) marks) p
    (subst (λ (xs : List Signal). IsReached (roots_from 0 xs) (all_links (replicate (length xs) []) ps found) marks) s h))
