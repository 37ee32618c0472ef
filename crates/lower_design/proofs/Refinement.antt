-- A target machine with the source's bits under their own places, and others that some processes read besides.
use Rattle.std.proofs.Common.{◌≡◌, Bool, true, false, List, [], ◌∷◌, Option, Some, None, refl, sym, ap, subst, ◌∙◌, inl, inr}
use Rattle.std.specs.List.{AllZip}
use Rattle.std.proofs.lemmas.Bool.{false≢true}
use Rattle.row_machine.specs.Valuation.{Place, Valuation, Member, has, OneWriter}
use Rattle.row_machine.specs.Machine.{Process, EdgeProcess, Machine}
use Rattle.row_machine.specs.Settle.{differs}
use Rattle.row_machine.specs.Order.{Honest, WellWritten, Sound}
use Rattle.row_machine.specs.Agreement.{Map, lifted, image_or, TypedMachine, SameWrites, Twin, EdgeTwin, Simulates, SameRow}
use Rattle.row_machine.specs.Dependence.{writes_image, AddsNoDependence}
use Rattle.row_machine.specs.Translation.{Refines, Translates}
use Rattle.row_machine.proofs.Basics.{followed_bit}
use Rattle.row_machine.proofs.Laws as Laws
use Rattle.lower_design.proofs.Names.{true_or_false}

pub zip-back : {A B : Type 0} (R : A → B → Type 0) (xs : List A) (ys : List B) → AllZip R xs ys → (y : B) → Member ys y → (x : A) × Member xs x × R x y
zip-back R [] [] z y m = elim m [ ]
zip-back R [] (b ∷ ys) z y m = absurd z
zip-back R (a ∷ xs) [] z y m = elim m [ ]
zip-back R (a ∷ xs) (b ∷ ys) z y (inl e) = (a, inl refl, subst (R a) (sym e) z.0)
zip-back R (a ∷ xs) (b ∷ ys) z y (inr m) = let r = zip-back R xs ys z.1 y m in (r.0, inr r.1, r.2)

pub zip-there : {A B : Type 0} (R : A → B → Type 0) (xs : List A) (ys : List B) → AllZip R xs ys → (x : A) → Member xs x → (y : B) × Member ys y × R x y
zip-there R [] ys z x m = elim m [ ]
zip-there R (a ∷ xs) [] z x m = absurd z
zip-there R (a ∷ xs) (b ∷ ys) z x (inl e) = (b, inl refl, subst (λ c. R c b) (sym e) z.0)
zip-there R (a ∷ xs) (b ∷ ys) z x (inr m) = let r = zip-there R xs ys z.1 x m in (r.0, inr r.1, r.2)

some_same : (p q : Place) → Some p ≡ Some q → p ≡ q
some_same p q e = cc

abbrev origin_of : Bool → Place → Option Place
origin_of true q = Some q
origin_of false q = None

image : (b : Bool) (q q' : Place) → origin_of b q' ≡ Some q → (b ≡ true) × (q' ≡ q)
image true q q' e = (refl, some_same q' q e)
image false q q' e = cc

no_image : (b : Bool) (q' : Place) → origin_of b q' ≡ None → b ≡ false
no_image true q' e = cc
no_image false q' e = refl

module _ (inside : Place → Bool) where
  -- the bits of the source's signals
  abbrev pub IsBelow : Place → Type 0
  IsBelow q = inside q ≡ true

  abbrev pub SameBelow : Valuation → Valuation → Type 0
  SameBelow v u = (q : Place) → IsBelow q → v q ≡ u q

  -- the second process does what the first does, and may read more signals than the source's
  pub record ReadsMore (p t : Process) : Type 0 where
    pub from_zero : t.from_zero ≡ p.from_zero
    pub source_waits : p.waits_for ≡ []
    pub target_waits : t.waits_for ≡ []
    pub writes : (q : Place) → has t.writes q ≡ has p.writes q
    pub assigns : (v : Valuation) (q : Place) → t.assigns v q ≡ p.assigns v q
    pub reads : (q : Place) → has p.reads q ≡ true → has t.reads q ≡ true
    pub no_more : (q : Place) → IsBelow q → has t.reads q ≡ true → has p.reads q ≡ true

  -- a process uses the source's signals alone
  pub record CombBelow (p : Process) : Type 0 where
    pub writes : (q : Place) → has p.writes q ≡ true → IsBelow q
    pub reads : (q : Place) → has p.reads q ≡ true → IsBelow q

  -- the second edge process does what the first does
  pub record SameEdges (p t : EdgeProcess) : Type 0 where
    pub writes : (q : Place) → has t.writes q ≡ has p.writes q
    pub runs : (v w : Valuation) → t.runs v w ≡ p.runs v w
    pub updates : (v : Valuation) (q : Place) → t.updates v q ≡ p.updates v q

  pub record EdgeBelow (p : EdgeProcess) : Type 0 where
    pub writes : (q : Place) → has p.writes q ≡ true → IsBelow q
    pub runs : (v v' w w' : Valuation) → SameBelow v v' → SameBelow w w' → p.runs v w ≡ p.runs v' w'
    pub updates : (v v' : Valuation) → SameBelow v v' → (q : Place) → p.updates v q ≡ p.updates v' q

  pub record Extends (extra : Valuation) (d e : Machine) : Type 0 where
    pub combs : AllZip ReadsMore d.combs e.combs
    pub edges : AllZip SameEdges d.edges e.edges
    pub inputs : (q : Place) → has e.inputs q ≡ has d.inputs q
    pub initial : (q : Place) → IsBelow q → e.initial q ≡ d.initial q
    pub start : (q : Place) → IsBelow q → has d.inputs q ≡ false → e.start q ≡ d.start q
    pub beyond : (q : Place) → inside q ≡ false → e.start q ≡ extra q
    pub combs_below : (p : Process) → Member d.combs p → CombBelow p
    pub edges_below : (p : EdgeProcess) → Member d.edges p → EdgeBelow p
    pub inputs_below : (q : Place) → has d.inputs q ≡ true → IsBelow q

  -- each source bit shows under its own place
  abbrev pub under_own : Valuation → Map
  under_own extra = record { origin = λ q. origin_of (inside q) q; extra = λ v q. extra q; two_state = λ q. false }

  module _ (extra : Valuation) where
    abbrev m : Map
    m = under_own extra

    same_place : (q q' : Place) → m.origin q' ≡ Some q → q' ≡ q
    same_place q q' o = (image (inside q') q q' o).1

    is_below : (q q' : Place) → m.origin q' ≡ Some q → IsBelow q'
    is_below q q' o = (image (inside q') q q' o).0

    is_beyond : (q' : Place) → m.origin q' ≡ None → inside q' ≡ false
    is_beyond q' o = no_image (inside q') q' o

    pub own_origin : (q : Place) → IsBelow q → m.origin q ≡ Some q
    own_origin q h = ap (λ b. origin_of b q) h

    pub lifted_below : (v : Valuation) → SameBelow (lifted m v) v
    lifted_below v q h = ap (λ o. image_or o v (extra q)) (own_origin q h)

    same_writes : (qs ks : List Place) → ((q : Place) → has ks q ≡ has qs q) → ((q : Place) → has qs q ≡ true → IsBelow q) → SameWrites m qs ks
    same_writes qs ks same below = record {
      images = λ q q' o. same q' ∙ ap (has qs) (same_place q q' o);
      no_more = λ q' o. elim (true_or_false (has qs q')) [
        | inr f ↦ same q' ∙ f
        | inl h ↦ absurd (false≢true (sym (is_beyond q' o) ∙ below q' h))
      ];
    }

    -- rows agree with themselves
    pub same_row : (d : Machine) (row : Valuation) → SameRow m d row row
    same_row d row = record { typed = λ q h e. absurd (false≢true e); images = λ q q' o h. ap row (same_place q q' o) }

    pub same_rows : (d : Machine) (rows : List Valuation) → AllZip (SameRow m d) rows rows
    same_rows d [] = tt
    same_rows d (row ∷ rows) = (same_row d row, same_rows d rows)

    typed : (d : Machine) → TypedMachine m d
    typed d = record {
      start = λ q e. absurd (false≢true e);
      combs = λ p k v at q b e f. absurd (false≢true f);
      edges = λ p k v at q b e f. absurd (false≢true f);
    }

    one_writer : (ps ts : List Process) → AllZip ReadsMore ps ts → OneWriter (λ (p : Process). p.writes) ps → OneWriter (λ (p : Process). p.writes) ts
    one_writer [] [] z one = tt
    one_writer [] (t ∷ ts) z one = absurd z
    one_writer (p ∷ ps) [] z one = absurd z
    one_writer (p ∷ ps) (t ∷ ts) z one = (
      λ q h x k.
          let r = zip-back ReadsMore ps ts z.1 x k in
          r.2.writes q ∙ one.0 q (sym (z.0.writes q) ∙ h) r.0 r.1,
      one_writer ps ts z.1 one.1,
    )

    edges_one_writer : (ps ts : List EdgeProcess) → AllZip SameEdges ps ts → OneWriter (λ (p : EdgeProcess). p.writes) ps → OneWriter (λ (p : EdgeProcess). p.writes) ts
    edges_one_writer [] [] z one = tt
    edges_one_writer [] (t ∷ ts) z one = absurd z
    edges_one_writer (p ∷ ps) [] z one = absurd z
    edges_one_writer (p ∷ ps) (t ∷ ts) z one = (
      λ q h x k. (let r = zip-back SameEdges ps ts z.1 x k in r.2.writes q ∙ one.0 q (sym (z.0.writes q) ∙ h) r.0 r.1),
      edges_one_writer ps ts z.1 one.1,
    )

    module _ (d e : Machine) (x : Extends extra d e) (sound : Sound d) where
      honest : (p t : Process) → Honest p → ReadsMore p t → Honest t
      honest p t h r = record {
        by_reads = λ v u same q. r.assigns v q ∙ h.by_reads v u (λ k a. same k (r.reads k a)) q ∙ sym (r.assigns u q);
        within = λ v q w. r.assigns v q ∙ h.within v q (sym (r.writes q) ∙ w);
      }

      twin : (p t : Process) → Member d.combs p → ReadsMore p t → Twin m d e p t
      twin p t k r = record {
        from_zero = r.from_zero;
        writes = same_writes p.writes t.writes r.writes (x.combs_below p k).writes;
        assigns = λ v at q q' o w.
            r.assigns (lifted m v) q'
            ∙ (sound.honest p k).by_reads (lifted m v) v (λ c h. lifted_below v c ((x.combs_below p k).reads c h)) q'
            ∙ ap (p.assigns v) (same_place q q' o);
        wakes = λ v at. ap (λ qs. differs qs (lifted m v) e.initial) r.target_waits ∙ sym (ap (λ qs. differs qs v d.initial) r.source_waits);
      }

      edge_twin : (p t : EdgeProcess) → Member d.edges p → SameEdges p t → EdgeTwin m d e p t
      edge_twin p t k r = record {
        writes = same_writes p.writes t.writes r.writes (x.edges_below p k).writes;
        first = λ w at. r.runs e.initial (lifted m w) ∙ (x.edges_below p k).runs e.initial d.initial (lifted m w) w x.initial (lifted_below w);
        later = λ v w at atw. r.runs (lifted m v) (lifted m w) ∙ (x.edges_below p k).runs (lifted m v) v (lifted m w) w (lifted_below v) (lifted_below w);
        updates = λ w at q q' o h. r.updates (lifted m w) q' ∙ (x.edges_below p k).updates (lifted m w) w (lifted_below w) q' ∙ ap (p.updates w) (same_place q q' o);
      }

      simulates : Simulates m d e
      simulates = record {
        inputs = same_writes d.inputs e.inputs x.inputs x.inputs_below;
        start = λ q q' o i. inl (x.start q' (is_below q q' o) (ap (has d.inputs) (same_place q q' o) ∙ i) ∙ ap d.start (same_place q q' o));
        unwritten = λ q' o k v at. sym (x.beyond q' (is_beyond q' o));
        twin = λ p k. (let r = zip-there ReadsMore d.combs e.combs x.combs p k in (r.0, r.1, twin p r.0 k r.2));
        source = λ t k. (let r = zip-back ReadsMore d.combs e.combs x.combs t k in inl (r.0, r.1, twin r.0 t r.1 r.2));
        edge_twin = λ p k. (let r = zip-there SameEdges d.edges e.edges x.edges p k in (r.0, r.1, edge_twin p r.0 k r.2));
        edge_source = λ t k. (let r = zip-back SameEdges d.edges e.edges x.edges t k in (r.0, r.1, edge_twin r.0 t r.1 r.2));
      }

      well_written : WellWritten e
      well_written = record {
        honest = λ t k. (let r = zip-back ReadsMore d.combs e.combs x.combs t k in honest r.0 t (sound.honest r.0 r.1) r.2);
        one_writer = one_writer d.combs e.combs x.combs sound.one_writer;
        edges_within = λ t k v q w. (let r = zip-back SameEdges d.edges e.edges x.edges t k in r.2.updates v q ∙ sound.edges_within r.0 r.1 v q (sym (r.2.writes q) ∙ w));
        edges_one_writer = edges_one_writer d.edges e.edges x.edges sound.edges_one_writer;
      }

      adds : AddsNoDependence m d e
      adds t k =
          let r = zip-back ReadsMore d.combs e.combs x.combs t k in
          inl (
            r.0,
            r.1,
            record {
              is_twin = twin r.0 t r.1 r.2;
              by_reads = λ b l f. (
                  let c = followed_bit t b f in
                  let s = zip-back ReadsMore d.combs e.combs x.combs b l in
                  let low : IsBelow c.0 = (x.combs_below s.0 s.1).writes c.0 (sym (s.2.writes c.0) ∙ c.2) in
                  writes_image c.0 c.0 (own_origin c.0 low) c.2 (r.2.no_more c.0 low c.1));
            },
          )

      pub refines : Refines m d e
      refines = record {
        source_sound = sound;
        source_typed = typed d;
        target_well_written = well_written;
        simulates = simulates;
        adds_no_dependence = adds;
      }

      pub translates : Translates m d e
      translates = Laws.refinement_translates m d e refines
