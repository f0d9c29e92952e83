-- An answer that is given keeps what is kept; so does a chunk that is shut or started, and a record that is left in doubt.
use Rattle.std.proofs.Common.{◌≡◌, ℕ, ◌<◌, ◌≤◌, ◌⊎◌, inl, inr, Bool, true, false, List, ◌∷◌, Option, Some, None, refl, sym, ◌∙◌, ap, subst, arith}
use Rattle.std.specs.Prelude.{◌&&◌, ◌||◌, not, is_some}
use Rattle.unit_id.specs.Lists.{IsIn, any}
use Rattle.unit_id.specs.Place.{Place}
use Rattle.code_mode.specs.VolumeShape.{VolumeShape}
use Rattle.unit_id.specs.Request.{Request, Answer, Given, place_of}
use Rattle.blob_node.specs.Units.{UnitRecord, Units, is_deleted, is_live}
use Rattle.volume_entry.specs.Manager.{Transfer, Lock, HeardListing, HeardMark, home_at, current, is_current}
use Rattle.volume_world.specs.State.{Status, State}
use Rattle.volume_world.specs.BlobStatus.{is_open}
use Rattle.volume_world.specs.Blind.{hides_live, hides_mark, is_blind_live, blind_live, is_blind_mark, blind_mark}
use Rattle.volume_world.specs.Provenance.{IsBorneOut}
use Rattle.volume_world.specs.Leases.{accepts_put, WasAccepted}
use Rattle.volume_world.specs.Sight.{WasListed}
use Rattle.volume_world.specs.Authority.{WasMarked, WasFenced, WasReleased, WasIssued}
use Rattle.volume_world.specs.Support.{IsOutlived}
use Rattle.blob_node.specs.Units.{is_row_record}
use Rattle.volume_world.specs.Invariant.{Kept}
use Rattle.unit_id.proofs.Bools.{not_so, contrary}
use Rattle.unit_id.proofs.Counts.{count_more}

-- what an answer owes when it is given
pub record MayBeGiven (shape : VolumeShape) (s : State) (g : Given) : Type 0 where
  pub issued : IsIn g.request s.post.issued
  pub borne_out : IsBorneOut s.puts.status s.manager.asked s.units g.request g.answer
  pub taken : (b : ℕ) → is_open (s.puts.status b) ≡ true → s.time < s.puts.end b → accepts_put b g.request g.answer ≡ true → is_current s.manager.homes (place_of g.request) ≡ true
  pub live : (i b : ℕ) → i < shape.total → hides_live s.manager.lock (current s.manager.homes i) b g ≡ true → not (is_live (s.units.row (current s.manager.homes i) b)) ≡ true
  pub marked : (i b : ℕ) → i < shape.total → hides_mark s.manager.lock (current s.manager.homes i) b g ≡ true → not (is_deleted (s.units.row (current s.manager.homes i) b)) ≡ true
  pub stale : (p : Place) (have : ℕ) → record { request = Request.Release p; answer = Answer.Stale have } ≡ g → IsOutlived s.units.is_made s.units.is_released p

abbrev pub given_more : State → Given → State
given_more s g = record s { post = record (s.post) { given = g ∷ s.post.given } }

-- a blind unit was blind before
blind_before : (u l g rest : Bool) → (g ≡ true → l ≡ true) → u && (l || (g || rest)) ≡ true → u && (l || rest) ≡ true
blind_before false l g rest h k = k
blind_before true true g rest h k = refl
blind_before true false true rest h k = let e = h refl in cc
blind_before true false false rest h k = k

as_blind_live : (shape : VolumeShape) (s : State) (g : Given) → MayBeGiven shape s g → (b : ℕ)
    → blind_live shape.total s.manager.lock s.manager.homes s.broken s.units.row (g ∷ s.post.given) b ≤ blind_live shape.total s.manager.lock s.manager.homes s.broken s.units.row s.post.given b
as_blind_live shape s g may b =
    count_more shape.total (is_blind_live s.manager.lock s.manager.homes s.broken s.units.row (g ∷ s.post.given) b) (is_blind_live s.manager.lock s.manager.homes s.broken s.units.row s.post.given b)
    (λ i below. let c = current s.manager.homes i in
    blind_before (not (s.broken (home_at s.manager.homes i).disk)) (not (is_live (s.units.row c b))) (hides_live s.manager.lock c b g) (any (hides_live s.manager.lock c b) s.post.given) (may.live i b below))

as_blind_mark : (shape : VolumeShape) (s : State) (g : Given) → MayBeGiven shape s g → (b : ℕ)
    → blind_mark shape.total s.manager.lock s.manager.homes s.broken s.units.row (g ∷ s.post.given) b ≤ blind_mark shape.total s.manager.lock s.manager.homes s.broken s.units.row s.post.given b
as_blind_mark shape s g may b =
    count_more shape.total (is_blind_mark s.manager.lock s.manager.homes s.broken s.units.row (g ∷ s.post.given) b) (is_blind_mark s.manager.lock s.manager.homes s.broken s.units.row s.post.given b)
    (λ i below. let c = current s.manager.homes i in
    blind_before (not (s.broken (home_at s.manager.homes i).disk)) (not (is_deleted (s.units.row c b))) (hides_mark s.manager.lock c b g) (any (hides_mark s.manager.lock c b) s.post.given) (may.marked i b below))

more_accepted : (pairs : List Given) (g : Given) (b i : ℕ) → WasAccepted pairs b i → WasAccepted (g ∷ pairs) b i
more_accepted pairs g b i h = record { by = h.by; given = inr h.given; accepts = h.accepts; index = h.index }

more_listed : (lock : Option Lock) (pairs : List Given) (g : Given) (l : HeardListing) → WasListed lock pairs l → WasListed lock (g ∷ pairs) l
more_listed lock pairs g l h = record { place = h.place; number = h.number; said = h.said; index = h.index; epoch = h.epoch; under = h.under; given = inr h.given }

more_marked : (pairs : List Given) (g : Given) (m : HeardMark) → WasMarked pairs m → WasMarked (g ∷ pairs) m
more_marked pairs g m h = record { place = h.place; answer = h.answer; index = h.index; epoch = h.epoch; marks = h.marks; given = inr h.given }

more_fenced : (lock : Option Lock) (pairs : List Given) (g : Given) (t : Transfer) → WasFenced lock pairs t → WasFenced lock (g ∷ pairs) t
more_fenced lock pairs g t h = record { place = h.place; number = h.number; index = h.index; epoch = h.epoch; under = h.under; given = inr h.given }

more_released : (pairs : List Given) (g : Given) (t : Transfer) → WasReleased pairs t → WasReleased (g ∷ pairs) t
more_released pairs g t h = record { answer = h.answer; releases = h.releases; given = inr h.given }

borne_out_stock : (status : ℕ → Status) (asked : List ℕ) (units : Units) (is_shut : Place → Bool) (doubt : Place → Option UnitRecord) (r : Request) (a : Answer)
    → IsBorneOut status asked units r a → IsBorneOut status asked (record units { is_shut = is_shut; doubt = doubt }) r a
borne_out_stock status asked units is_shut doubt (Request.Put p b) Answer.Done h = h
borne_out_stock status asked units is_shut doubt r a h = h

pub answer_kept : (shape : VolumeShape) (s : State) (g : Given) → Kept shape s → MayBeGiven shape s g → Kept shape (given_more s g)
answer_kept shape s g k may = record {
  placement = k.placement;
  provenance = record { rows = k.provenance.rows; answers = answers };
  leases = record {
    seen_end = k.leases.seen_end;
    locked_after = k.leases.locked_after;
    taken_by_current = taken;
    acceptance_answered = λ b i h l a. more_accepted s.post.given g b i (k.leases.acceptance_answered b i h l a);
  };
  fencing = k.fencing;
  durability = k.durability;
  deletion = k.deletion;
  sight = record {
    few_blind_live = λ l u b h. omega (arith, as_blind_live shape s g may b, k.sight.few_blind_live l u b h);
    few_blind_mark = λ l u b h. omega (arith, as_blind_mark shape s g may b, k.sight.few_blind_mark l u b h);
    listings_given = λ l u i h. more_listed s.manager.lock s.post.given g i (k.sight.listings_given l u i h);
    live_rows_stand = k.sight.live_rows_stand;
    marked_rows_stand = k.sight.marked_rows_stand;
  };
  succession = k.succession;
  authority = record {
    requests = k.authority.requests;
    releases = k.authority.releases;
    hearing = record {
      mark_given = λ m i. more_marked s.post.given g m (k.authority.hearing.mark_given m i);
      fenced_given = λ t i h. more_fenced s.manager.lock s.post.given g t (k.authority.hearing.fenced_given t i h);
      released_given = λ t i h. more_released s.post.given g t (k.authority.hearing.released_given t i h);
    };
    doubt_sound = k.authority.doubt_sound;
  };
  support = record { locks = k.support.locks; leases = k.support.leases; asks = k.support.asks; post = record { given_were_issued = issued; stale_release_explained = stale }; units = k.support.units };
  form = k.form;
} where
  answers : (h : Given) → IsIn h (g ∷ s.post.given) → IsBorneOut s.puts.status s.manager.asked s.units h.request h.answer
  answers h (inl e) = subst (λ x. IsBorneOut s.puts.status s.manager.asked s.units x.request x.answer) (sym e) may.borne_out
  answers h (inr i) = k.provenance.answers h i

  taken : (b : ℕ) → is_open (s.puts.status b) ≡ true → s.time < s.puts.end b → (h : Given) → IsIn h (g ∷ s.post.given) → accepts_put b h.request h.answer ≡ true → is_current s.manager.homes (place_of h.request) ≡ true
  taken b o l h (inl e) = subst (λ x. accepts_put b x.request x.answer ≡ true → is_current s.manager.homes (place_of x.request) ≡ true) (sym e) (may.taken b o l)
  taken b o l h (inr i) = k.leases.taken_by_current b o l h i

  issued : (h : Given) → IsIn h (g ∷ s.post.given) → IsIn h.request s.post.issued
  issued h (inl e) = subst (λ x. IsIn x.request s.post.issued) (sym e) may.issued
  issued h (inr i) = k.support.post.given_were_issued h i

  stale : (p : Place) (have : ℕ) → IsIn (record { request = Request.Release p; answer = Answer.Stale have }) (g ∷ s.post.given) → IsOutlived s.units.is_made s.units.is_released p
  stale p have (inl e) = may.stale p have e
  stale p have (inr i) = k.support.post.stale_release_explained p have i

-- what a record left in doubt owes
pub record MayBeInDoubt (s : State) (place : Place) (item : UnitRecord) : Type 0 where
  pub issued : WasIssued s.post.issued place item
  pub release_below : item ≡ UnitRecord.Release → place.epoch < (home_at s.manager.homes place.index).epoch
  pub unfenced : is_row_record (Some item) ≡ true → s.units.fence place ≡ None
  pub unreleased : s.units.is_released place ≡ false
  pub made : s.units.is_made place ≡ true

-- other chunks shut, and other records in doubt
pub stock_kept : (shape : VolumeShape) (s : State) (is_shut : Place → Bool) (doubt : Place → Option UnitRecord) → Kept shape s
    → ((p : Place) (item : UnitRecord) → doubt p ≡ Some item → (s.units.doubt p ≡ Some item) ⊎ MayBeInDoubt s p item)
    → Kept shape (record s { units = record (s.units) { is_shut = is_shut; doubt = doubt } })
stock_kept shape s is_shut doubt k new = record {
  placement = k.placement;
  provenance = record { rows = k.provenance.rows; answers = λ g i. borne_out_stock s.puts.status s.manager.asked s.units is_shut doubt g.request g.answer (k.provenance.answers g i) };
  leases = k.leases;
  fencing = k.fencing;
  durability = k.durability;
  deletion = k.deletion;
  sight = k.sight;
  succession = k.succession;
  authority = record {
    requests = k.authority.requests;
    releases = record {
      released_below = k.authority.releases.released_below;
      doubtful_release_below = λ p e. elim (new p UnitRecord.Release e) [ inl old ↦ k.authority.releases.doubtful_release_below p old | inr may ↦ may.release_below refl ];
      unit_doubt_issued = λ p item e. elim (new p item e) [ inl old ↦ k.authority.releases.unit_doubt_issued p item old | inr may ↦ may.issued ];
    };
    hearing = k.authority.hearing;
    doubt_sound = k.authority.doubt_sound;
  };
  support = record {
    locks = k.support.locks;
    leases = k.support.leases;
    asks = k.support.asks;
    post = k.support.post;
    units = record {
      fenced_units_have_no_row_doubt = λ p h. fenced p h (doubt p) refl;
      released_units_have_no_rows = k.support.units.released_units_have_no_rows;
      released_units_have_no_fence = k.support.units.released_units_have_no_fence;
      released_units_have_no_doubt = λ p h. released p h (doubt p) refl;
    };
  };
  form = record {
    lists = k.form.lists;
    log = k.form.log;
    lock = k.form.lock;
    units = record {
      unmade_has_no_rows = k.form.units.unmade_has_no_rows;
      unmade_has_no_fence = k.form.units.unmade_has_no_fence;
      unmade_is_unreleased = k.form.units.unmade_is_unreleased;
      unmade_has_no_doubt = λ p h. unmade p h (doubt p) refl;
    };
  };
} where
  fenced : (p : Place) → is_some (s.units.fence p) ≡ true → (d : Option UnitRecord) → doubt p ≡ d → is_row_record d ≡ false
  fenced p h None e = refl
  fenced p h (Some item) e = elim (new p item e) [
    | inl old ↦ ap is_row_record (sym old) ∙ k.support.units.fenced_units_have_no_row_doubt p h
    | inr may ↦ not_so (is_row_record (Some item)) (λ r. contrary (is_some (s.units.fence p)) h (ap is_some (may.unfenced r)))
  ]

  released : (p : Place) → s.units.is_released p ≡ true → (d : Option UnitRecord) → doubt p ≡ d → d ≡ None
  released p h None e = refl
  released p h (Some item) e = elim (new p item e) [
    | inl old ↦ sym old ∙ k.support.units.released_units_have_no_doubt p h
    | inr may ↦ absurd (contrary (s.units.is_released p) h may.unreleased)
  ]

  unmade : (p : Place) → s.units.is_made p ≡ false → (d : Option UnitRecord) → doubt p ≡ d → d ≡ None
  unmade p h None e = refl
  unmade p h (Some item) e = elim (new p item e) [
    | inl old ↦ sym old ∙ k.form.units.unmade_has_no_doubt p h
    | inr may ↦ absurd (contrary (s.units.is_made p) may.made h)
  ]
