-- What a refinement gives, and that machines that are alike are one.
use Rattle.std.proofs.Common.{◌≡◌, false, List, Option, Some, None, refl, ap, subst, inl}
use Rattle.row_machine.specs.Valuation.{Place, has}
use Rattle.row_machine.specs.Machine.{Process, EdgeProcess, Machine}
use Rattle.row_machine.specs.Order.{Sound}
use Rattle.row_machine.specs.Agreement.{Map, TypedMachine, SameWrites, Twin, EdgeTwin, Simulates}
use Rattle.row_machine.specs.Dependence.{writes_image, AddsNoDependence}
use Rattle.row_machine.specs.Translation.{Refines, Translates, identity}
use Rattle.row_machine.specs.Alike.{Alike}
use Rattle.row_machine.proofs.Basics.{clash, followed_bit}
use Rattle.row_machine.proofs.Agreement.{none_some}
use Rattle.row_machine.proofs.Alike.{same_machine}
use Rattle.row_machine.proofs.Dependence.{target_free}
use Rattle.row_machine.proofs.TracesAgree.{traces_agree}
use Rattle.row_machine.proofs.Traces.{one_trace}
use Rattle.row_machine.proofs.Rounds.{reaches}

pub target_sound : (m : Map) (d e : Machine) → Refines m d e → Sound e
target_sound m d e r = record { well_written = r.target_well_written; all_free = target_free m d e r.adds_no_dependence r.source_sound.all_free }

pub translates : (m : Map) (d e : Machine) → Refines m d e → Translates m d e
translates m d e r =
    let sound = target_sound m d e r in record {
      source_trace = one_trace d r.source_sound;
      target_trace = one_trace e sound;
      agree = λ rows rows' same. traces_agree m d e r.simulates r.source_typed r.source_sound sound rows rows' same;
      reach = λ s base v settled. reaches e sound s base v settled;
    }

-- a machine refines itself
module _ (d : Machine) where
  same_place : (q q' : Place) → identity.origin q' ≡ Some q → q' ≡ q
  same_place q q' e = inner (identity.origin q') e refl
    where
      inner : (o : Option Place) → o ≡ Some q → o ≡ Some q' → q' ≡ q
      inner o e f = cc

  image_of : {C : Type 0} (q' : Place) → identity.origin q' ≡ None → C
  image_of q' e = none_some (identity.origin q') e refl

  own_writes : (qs : List Place) → SameWrites identity qs qs
  own_writes qs = record { images = λ q q' o. ap (has qs) (same_place q q' o); no_more = λ q' o. image_of q' o }

  own_twin : (p : Process) → Twin identity d d p p
  own_twin p = record {
    from_zero = refl;
    writes = own_writes p.writes;
    assigns = λ v typed q q' o w. ap (p.assigns v) (same_place q q' o);
    wakes = λ v typed. refl;
  }

  own_edge : (p : EdgeProcess) → EdgeTwin identity d d p p
  own_edge p = record {
    writes = own_writes p.writes;
    first = λ w typed. refl;
    later = λ v w at_v at_w. refl;
    updates = λ w typed q q' o h. ap (p.updates w) (same_place q q' o);
  }

  own_simulation : Simulates identity d d
  own_simulation = record {
    inputs = own_writes d.inputs;
    start = λ q q' o i. inl (ap d.start (same_place q q' o));
    unwritten = λ q' o n v typed. image_of q' o;
    twin = λ p m. (p, m, own_twin p);
    source = λ t m. inl (t, m, own_twin t);
    edge_twin = λ p m. (p, m, own_edge p);
    edge_source = λ t m. (t, m, own_edge t);
  }

  own_dependence : AddsNoDependence identity d d
  own_dependence t m = inl (t, m, record { is_twin = own_twin t; by_reads = λ b mb f. let r = followed_bit t b f in writes_image r.0 r.0 refl r.2 r.1 })

  own_types : TypedMachine identity d
  own_types = record {
    start = λ q e. clash false e refl;
    combs = λ p m v typed q b e f. clash false f refl;
    edges = λ p m v typed q b e f. clash false f refl;
  }

  pub own_refinement : Sound d → Refines identity d d
  own_refinement sound = record {
    source_sound = sound;
    source_typed = own_types;
    target_well_written = sound.well_written;
    simulates = own_simulation;
    adds_no_dependence = own_dependence;
  }

pub alike_translates : (d e : Machine) → Alike d e → Sound d → Translates identity d e
alike_translates d e alike sound = subst (λ x. Translates identity d x) (same_machine d e alike) (translates identity d d (own_refinement d sound))
