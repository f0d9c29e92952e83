-- An answer that is heard keeps what is kept.
use Rattle.std.proofs.Common.{◌≡◌, ℕ, ◌⊎◌, inl, inr, Bool, true, false, List, [], ◌∷◌, ◌++◌, Option, None, refl, sym, ◌∙◌, ap, subst, cond, arith}
use Rattle.std.specs.Prelude.{◌&&◌, ◌||◌, ◌==◌, is_some}
use Rattle.std.proofs.lemmas.Bool.{eqb-true}
use Rattle.unit_id.specs.Lists.{IsIn, any, is_in}
use Rattle.unit_id.specs.Place.{Place, at_home}
use Rattle.code_mode.specs.VolumeShape.{VolumeShape}
use Rattle.unit_id.specs.Shown.{Shown}
use Rattle.unit_id.specs.Request.{Request, Answer}
use Rattle.blob_node.specs.Units.{RowState, has_row, is_deleted}
use Rattle.volume_entry.specs.Manager.{Transfer, HeardListing, HeardRow, HeardMark, Heard, home_at, transfers_of, is_swapped, has_number, is_destination, is_old, is_old_there}
use Rattle.volume_entry.specs.Benchmark.{was_heard}
use Rattle.volume_entry.specs.ManagerStep.{rows_at, hear_listing, hear_live, hear_marked, hear}
use Rattle.volume_world.specs.State.{State}
use Rattle.volume_world.specs.BlobStatus.{is_open}
use Rattle.volume_world.specs.Move.{accepts, puts_hear, Hears}
use Rattle.volume_world.specs.Provenance.{IsBorneOut}
use Rattle.volume_world.specs.Leases.{accepts_put}
use Rattle.volume_world.specs.Sight.{WasListed}
use Rattle.volume_world.specs.Authority.{WasMarked, WasReleased, gives_mark, gives_release, HeardGiven}
use Rattle.volume_world.specs.Invariant.{Kept}
use Rattle.unit_id.proofs.Bools.{and_left, and_right, or_cases, contrary, equal_test}
use Rattle.unit_id.proofs.Membership.{any_gives}
use Rattle.unit_id.proofs.Places.{same_place}
use Rattle.volume_world.proofs.Statuses.{puts_kept}
use Rattle.volume_world.proofs.Transfers.{destination_gives}
use Rattle.volume_world.proofs.Written.{old_gives}
use Rattle.volume_world.proofs.GivenByUnits.{pair}

-- what may be heard
pub record MayBeHeard (s : State) (heard : Heard) (marks : List HeardMark) : Type 0 where
  pub listings : (l : HeardListing) → IsIn l heard.listings → is_some s.manager.lock ≡ true → is_swapped s.manager.lock ≡ false → WasListed s.manager.lock s.post.given l
  pub live : is_swapped s.manager.lock ≡ false → (t : Transfer) (b : ℕ) → IsIn t (transfers_of s.manager.lock) → was_heard heard.live t.index b ≡ true → has_row (s.units.row (at_home t.index t.dest) b) ≡ true
  pub marked : is_swapped s.manager.lock ≡ false → (t : Transfer) (b : ℕ) → IsIn t (transfers_of s.manager.lock) → was_heard heard.marked t.index b ≡ true → is_deleted (s.units.row (at_home t.index t.dest) b) ≡ true
  pub hearing : HeardGiven s.manager.lock heard marks s.post.given

-- the state with this heard
abbrev pub hearing_of : State → Heard → List HeardMark → State
hearing_of s heard marks = record s { manager = record (s.manager) { heard = heard; marks = marks } }

heard_kept : (shape : VolumeShape) (s : State) (heard : Heard) (marks : List HeardMark) → Kept shape s → MayBeHeard s heard marks → Kept shape (hearing_of s heard marks)
heard_kept shape s heard marks k may = record {
  placement = k.placement;
  provenance = k.provenance;
  leases = k.leases;
  fencing = k.fencing;
  durability = k.durability;
  deletion = k.deletion;
  sight = record {
    few_blind_live = k.sight.few_blind_live;
    few_blind_mark = k.sight.few_blind_mark;
    listings_given = λ l u x i. may.listings x i l u;
    live_rows_stand = may.live;
    marked_rows_stand = may.marked;
  };
  succession = k.succession;
  authority = record { requests = k.authority.requests; releases = k.authority.releases; hearing = may.hearing; doubt_sound = k.authority.doubt_sound };
  support = k.support;
  form = k.form;
}

-- what is heard so far may be
as_heard : (shape : VolumeShape) (s : State) → Kept shape s → MayBeHeard s s.manager.heard s.manager.marks
as_heard shape s k = record { listings = λ l i a u. k.sight.listings_given a u l i; live = k.sight.live_rows_stand; marked = k.sight.marked_rows_stand; hearing = k.authority.hearing }

-- a destination isn't released
destination_unreleased : (shape : VolumeShape) (s : State) → Kept shape s → is_swapped s.manager.lock ≡ false → (p : Place) (t : Transfer) → IsIn t (transfers_of s.manager.lock) → t.index ≡ p.index → t.dest.epoch ≡ p.epoch → s.units.is_released p ≡ false
destination_unreleased shape s k unswapped p t i e f = go (s.units.is_released p) refl where
  go : (test : Bool) → s.units.is_released p ≡ test → test ≡ false
  go true r =
      let below = k.authority.releases.released_below p r in
      let above = k.support.locks.destinations_above_current unswapped t i in
      let g = ap (λ n. (home_at s.manager.homes n).epoch) e in
      absurd (omega (arith, below, above, g, f))
  go false r = refl

-- a row of a destination that an answer speaks of stands at its place
stands_there : (shape : VolumeShape) (s : State) → Kept shape s → (p : Place) (t : Transfer) (b : ℕ) (test : Option RowState → Bool) → (test None ≡ false) → IsIn t (transfers_of s.manager.lock) → t.index ≡ p.index → t.dest.epoch ≡ p.epoch
    → test (s.units.row p b) ≡ true → test (s.units.row (at_home t.index t.dest) b) ≡ true
stands_there shape s k p t b test none i e f h =
    let disk : p.disk ≡ t.dest.disk = k.placement.destination_at_home p t (made (s.units.is_made p) refl) i (sym e) (sym f) in
    subst (λ q. test (s.units.row q b) ≡ true) (same_place p (at_home t.index t.dest) (sym e) (sym f) disk) h where
      made : (m : Bool) → s.units.is_made p ≡ m → s.units.is_made p ≡ true
      made true x = x
      made false x = absurd (contrary (test (s.units.row p b)) h (ap test (k.form.units.unmade_has_no_rows p x b) ∙ none))

-- the transfer of an index that makes a place its destination
the_destination : (shape : VolumeShape) (s : State) → Kept shape s → (p : Place) → is_destination (transfers_of s.manager.lock) p ≡ true → (t : Transfer) → IsIn t (transfers_of s.manager.lock) → p.index ≡ t.index → t.dest.epoch ≡ p.epoch
the_destination shape s k p d t i e =
    let found = destination_gives (transfers_of s.manager.lock) p d in
    ap (λ (u : Transfer). u.dest.epoch) (sym (k.form.lock.one_by_index found.0 t found.1 i (found.2 ∙ e))) ∙ found.3

any_append : {A : Type 0} (test : A → Bool) (xs ys : List A) → any test (xs ++ ys) ≡ true → (any test xs ≡ true) ⊎ (any test ys ≡ true)
any_append test [] ys h = inr h
any_append test (x ∷ xs) ys h = elim (or_cases (test x) (any test (xs ++ ys)) h) [
  | inl here ↦ inl (ap (λ a. a || any test xs) here)
  | inr there ↦ elim (any_append test xs ys there) [
    | inl front ↦ inl (go (test x) front)
    | inr back ↦ inr back
  ]
] where
  go : (a : Bool) → any test xs ≡ true → a || any test xs ≡ true
  go true f = refl
  go false f = f

rows_gives : (index : ℕ) (bids : List ℕ) (i b : ℕ) → was_heard (rows_at index bids) i b ≡ true → (index ≡ i) × (is_in b bids ≡ true)
rows_gives index [] i b h = cc
rows_gives index (bid ∷ bids) i b h = elim (or_cases ((index == i) && (bid == b)) (was_heard (rows_at index bids) i b) h) [
  | inl here ↦ (eqb-true index i (and_left (index == i) (bid == b) here), ap (λ a. a || is_in b bids) (equal_test b bid (sym (eqb-true bid b (and_right (index == i) (bid == b) here)))))
  | inr there ↦ let r = rows_gives index bids i b there in (r.0, more (b == bid) r.1)
] where
  more : (a : Bool) → is_in b bids ≡ true → a || is_in b bids ≡ true
  more true f = refl
  more false f = f

module _ (shape : VolumeShape) (s : State) (k : Kept shape s) where
  -- one more row heard at a destination
  one_more : (p : Place) (bid : ℕ) (rows : List HeardRow) (test : Option RowState → Bool) → test None ≡ false
      → (is_destination (transfers_of s.manager.lock) p ≡ true → is_swapped s.manager.lock ≡ false → test (s.units.row p bid) ≡ true)
      → ((t : Transfer) (b : ℕ) → IsIn t (transfers_of s.manager.lock) → was_heard rows t.index b ≡ true → test (s.units.row (at_home t.index t.dest) b) ≡ true)
      → is_swapped s.manager.lock ≡ false → (t : Transfer) (b : ℕ) → IsIn t (transfers_of s.manager.lock)
      → was_heard (cond (is_destination (transfers_of s.manager.lock) p) (record { index = p.index; bid = bid } ∷ rows) rows) t.index b ≡ true → test (s.units.row (at_home t.index t.dest) b) ≡ true
  one_more p bid rows test none here old unswapped t b i = go (is_destination (transfers_of s.manager.lock) p) refl where
    go : (d : Bool) → is_destination (transfers_of s.manager.lock) p ≡ d → was_heard (cond d (record { index = p.index; bid = bid } ∷ rows) rows) t.index b ≡ true → test (s.units.row (at_home t.index t.dest) b) ≡ true
    go false e h = old t b i h
    go true e h = elim (or_cases ((p.index == t.index) && (bid == b)) (was_heard rows t.index b) h) [
      | inl new ↦
          let index = eqb-true p.index t.index (and_left (p.index == t.index) (bid == b) new) in
          let blob = eqb-true bid b (and_right (p.index == t.index) (bid == b) new) in
          stands_there shape s k p t b test none i (sym index) (the_destination shape s k p e t i index) (subst (λ c. test (s.units.row p c) ≡ true) blob (here e unswapped))
      | inr before ↦ old t b i before
    ]

  -- rows of a listing heard at a destination
  more_rows : (p : Place) (bids : List ℕ) (rows : List HeardRow) (test : Option RowState → Bool) → test None ≡ false
      → (is_swapped s.manager.lock ≡ false → is_destination (transfers_of s.manager.lock) p ≡ true → (b : ℕ) → is_in b bids ≡ true → test (s.units.row p b) ≡ true)
      → ((t : Transfer) (b : ℕ) → IsIn t (transfers_of s.manager.lock) → was_heard rows t.index b ≡ true → test (s.units.row (at_home t.index t.dest) b) ≡ true)
      → is_swapped s.manager.lock ≡ false → (t : Transfer) (b : ℕ) → IsIn t (transfers_of s.manager.lock)
      → was_heard (cond (is_destination (transfers_of s.manager.lock) p) (rows_at p.index bids ++ rows) rows) t.index b ≡ true → test (s.units.row (at_home t.index t.dest) b) ≡ true
  more_rows p bids rows test none here old unswapped t b i = go (is_destination (transfers_of s.manager.lock) p) refl where
    go : (d : Bool) → is_destination (transfers_of s.manager.lock) p ≡ d → was_heard (cond d (rows_at p.index bids ++ rows) rows) t.index b ≡ true → test (s.units.row (at_home t.index t.dest) b) ≡ true
    go false e h = old t b i h
    go true e h = elim (any_append (λ (r : HeardRow). (r.index == t.index) && (r.bid == b)) (rows_at p.index bids) rows h) [
      | inl new ↦
          let r = rows_gives p.index bids t.index b new in
          stands_there shape s k p t b test none i (sym r.0) (the_destination shape s k p e t i r.0) (here unswapped e b r.1)
      | inr before ↦ old t b i before
    ]

  unreleased_there : (p : Place) → is_destination (transfers_of s.manager.lock) p ≡ true → is_swapped s.manager.lock ≡ false → s.units.is_released p ≡ false
  unreleased_there p d unswapped = let found = destination_gives (transfers_of s.manager.lock) p d in destination_unreleased shape s k unswapped p found.0 found.1 found.2 found.3

  live_heard : (p : Place) (bid : ℕ) → (s.units.is_released p ≡ false → has_row (s.units.row p bid) ≡ true) → Kept shape (hearing_of s (hear_live (transfers_of s.manager.lock) p bid s.manager.heard) s.manager.marks)
  live_heard p bid stands = heard_kept shape s (hear_live (transfers_of s.manager.lock) p bid s.manager.heard) s.manager.marks k (record {
    listings = λ l i a u. k.sight.listings_given a u l i;
    live = λ u. one_more p bid s.manager.heard.live has_row refl (λ d w. stands (unreleased_there p d w)) (k.sight.live_rows_stand u) u;
    marked = k.sight.marked_rows_stand;
    hearing = record { mark_given = k.authority.hearing.mark_given; fenced_given = k.authority.hearing.fenced_given; released_given = k.authority.hearing.released_given };
  })

  marked_heard : (p : Place) (bid : ℕ) (marks : List HeardMark) → (s.units.is_released p ≡ false → is_deleted (s.units.row p bid) ≡ true) → ((m : HeardMark) → IsIn m marks → WasMarked s.post.given m)
      → Kept shape (hearing_of s (hear_marked (transfers_of s.manager.lock) p bid s.manager.heard) marks)
  marked_heard p bid marks stands given = heard_kept shape s (hear_marked (transfers_of s.manager.lock) p bid s.manager.heard) marks k (record {
    listings = λ l i a u. k.sight.listings_given a u l i;
    live = k.sight.live_rows_stand;
    marked = λ u. one_more p bid s.manager.heard.marked is_deleted refl (λ d w. stands (unreleased_there p d w)) (k.sight.marked_rows_stand u) u;
    hearing = record { mark_given = given; fenced_given = k.authority.hearing.fenced_given; released_given = k.authority.hearing.released_given };
  })

  mark_heard : (p : Place) (bid : ℕ) (a : Answer) → gives_mark a ≡ true → IsIn (pair (Request.Mark p bid) a) s.post.given → (s.units.is_released p ≡ false → is_deleted (s.units.row p bid) ≡ true)
      → Kept shape (hearing_of s (hear_marked (transfers_of s.manager.lock) p bid s.manager.heard) (record { bid = bid; index = p.index; epoch = p.epoch } ∷ s.manager.marks))
  mark_heard p bid a gives i stands = marked_heard p bid (record { bid = bid; index = p.index; epoch = p.epoch } ∷ s.manager.marks) stands given where
    given : (m : HeardMark) → IsIn m (record { bid = bid; index = p.index; epoch = p.epoch } ∷ s.manager.marks) → WasMarked s.post.given m
    given m (inl e) = subst (WasMarked s.post.given) (sym e) (record { place = p; answer = a; index = refl; epoch = refl; marks = gives; given = i })
    given m (inr old) = k.authority.hearing.mark_given m old

  listing_heard : (p : Place) (n said : ℕ) (shown : Shown) → IsIn (pair (Request.List p n) (Answer.Listing said shown)) s.post.given
      → Kept shape (hearing_of s (cond (has_number s.manager.lock n) (hear_listing (transfers_of s.manager.lock) p shown s.manager.heard) s.manager.heard) s.manager.marks)
  listing_heard p n said shown i = go (has_number s.manager.lock n) refl where
    right : IsBorneOut s.puts.status s.manager.asked s.units (Request.List p n) (Answer.Listing said shown)
    right = k.provenance.answers (pair (Request.List p n) (Answer.Listing said shown)) i

    go : (test : Bool) → has_number s.manager.lock n ≡ test → Kept shape (hearing_of s (cond test (hear_listing (transfers_of s.manager.lock) p shown s.manager.heard) s.manager.heard) s.manager.marks)
    go false e = k
    go true e = heard_kept shape s (hear_listing (transfers_of s.manager.lock) p shown s.manager.heard) s.manager.marks k (record {
      listings = listings;
      live = λ u. more_rows p shown.live s.manager.heard.live has_row refl (λ w d. right.live_stands (unreleased_there p d w)) (k.sight.live_rows_stand u) u;
      marked = λ u. more_rows p shown.marked s.manager.heard.marked is_deleted refl (λ w d. right.marked_stands (unreleased_there p d w)) (k.sight.marked_rows_stand u) u;
      hearing = record { mark_given = k.authority.hearing.mark_given; fenced_given = k.authority.hearing.fenced_given; released_given = k.authority.hearing.released_given };
    }) where
      listings : (l : HeardListing) → IsIn l (record { index = p.index; epoch = p.epoch; shown = shown } ∷ s.manager.heard.listings) → is_some s.manager.lock ≡ true → is_swapped s.manager.lock ≡ false
          → WasListed s.manager.lock s.post.given l
      listings l (inl f) a u = subst (WasListed s.manager.lock s.post.given) (sym f) (record { place = p; number = n; said = said; index = refl; epoch = refl; under = e; given = i })
      listings l (inr old) a u = k.sight.listings_given a u l old

  fence_heard : (p : Place) (n : ℕ) → IsIn (pair (Request.Fence p n) Answer.Done) s.post.given
      → Kept shape (hearing_of s (record (s.manager.heard) { fenced = cond (has_number s.manager.lock n && is_old (transfers_of s.manager.lock) p) (p.index ∷ s.manager.heard.fenced) s.manager.heard.fenced }) s.manager.marks)
  fence_heard p n i = go (has_number s.manager.lock n && is_old (transfers_of s.manager.lock) p) refl where
    go : (test : Bool) → has_number s.manager.lock n && is_old (transfers_of s.manager.lock) p ≡ test
        → Kept shape (hearing_of s (record (s.manager.heard) { fenced = cond test (p.index ∷ s.manager.heard.fenced) s.manager.heard.fenced }) s.manager.marks)
    go false e = k
    go true e = heard_kept shape s (record (s.manager.heard) { fenced = p.index ∷ s.manager.heard.fenced }) s.manager.marks k (record {
      listings = λ l x a u. k.sight.listings_given a u l x;
      live = k.sight.live_rows_stand;
      marked = k.sight.marked_rows_stand;
      hearing = record {
        mark_given = k.authority.hearing.mark_given;
        fenced_given = λ t x h. elim (or_cases (t.index == p.index) (is_in t.index s.manager.heard.fenced) h) [
          | inl here ↦
              let index = eqb-true t.index p.index here in
              let found = old_gives (transfers_of s.manager.lock) p (and_right (has_number s.manager.lock n) (is_old (transfers_of s.manager.lock) p) e) in
              let epoch = sym found.3 ∙ ap (λ (u : Transfer). u.old.epoch) (k.form.lock.one_by_index found.0 t found.1 x (found.2 ∙ sym index)) in
              record { place = p; number = n; index = sym index; epoch = epoch; under = and_left (has_number s.manager.lock n) (is_old (transfers_of s.manager.lock) p) e; given = i }
          | inr before ↦ k.authority.hearing.fenced_given t x before
        ];
        released_given = k.authority.hearing.released_given;
      };
    })

  release_heard : (p : Place) (a : Answer) → gives_release a ≡ true → IsIn (pair (Request.Release p) a) s.post.given
      → Kept shape (hearing_of s (record (s.manager.heard) { released = cond (is_old_there (transfers_of s.manager.lock) p) (p.index ∷ s.manager.heard.released) s.manager.heard.released }) s.manager.marks)
  release_heard p a gives i = go (is_old_there (transfers_of s.manager.lock) p) refl where
    go : (test : Bool) → is_old_there (transfers_of s.manager.lock) p ≡ test
        → Kept shape (hearing_of s (record (s.manager.heard) { released = cond test (p.index ∷ s.manager.heard.released) s.manager.heard.released }) s.manager.marks)
    go false e = k
    go true e = heard_kept shape s (record (s.manager.heard) { released = p.index ∷ s.manager.heard.released }) s.manager.marks k (record {
      listings = λ l x b u. k.sight.listings_given b u l x;
      live = k.sight.live_rows_stand;
      marked = k.sight.marked_rows_stand;
      hearing = record {
        mark_given = k.authority.hearing.mark_given;
        fenced_given = k.authority.hearing.fenced_given;
        released_given = λ t x h. elim (or_cases (t.index == p.index) (is_in t.index s.manager.heard.released) h) [
          | inl here ↦ new t x (eqb-true t.index p.index here) (any_gives (λ u. ((u.index == p.index) && (u.old.epoch == p.epoch)) && (u.old.disk == p.disk)) (transfers_of s.manager.lock) e)
          | inr before ↦ k.authority.hearing.released_given t x before
        ];
      };
    }) where
      new : (t : Transfer) → IsIn t (transfers_of s.manager.lock) → t.index ≡ p.index
          → (u : Transfer) × IsIn u (transfers_of s.manager.lock) × (((u.index == p.index) && (u.old.epoch == p.epoch)) && (u.old.disk == p.disk) ≡ true) → WasReleased s.post.given t
      new t x index found =
          let u = found.0 in
          let name = and_left ((u.index == p.index) && (u.old.epoch == p.epoch)) (u.old.disk == p.disk) found.2 in
          let at : p ≡ at_home u.index u.old = same_place p (at_home u.index u.old) (sym (eqb-true u.index p.index (and_left (u.index == p.index) (u.old.epoch == p.epoch) name)))
          (sym (eqb-true u.old.epoch p.epoch (and_right (u.index == p.index) (u.old.epoch == p.epoch) name)))
          (sym (eqb-true u.old.disk p.disk (and_right ((u.index == p.index) && (u.old.epoch == p.epoch)) (u.old.disk == p.disk) found.2))) in
          let same_transfer = k.form.lock.one_by_index u t found.1 x (ap (λ (q : Place). q.index) (sym at) ∙ sym index) in
          record { answer = a; releases = gives; given = subst (λ q. IsIn (pair (Request.Release q) a) s.post.given) (at ∙ (λ j. at_home (same_transfer j).index (same_transfer j).old)) i }

  -- an acceptance
  put_heard : (p : Place) (bid : ℕ) (a : Answer) → accepts_put bid (Request.Put p bid) a ≡ true → IsIn (pair (Request.Put p bid) a) s.post.given → Kept shape (record s { puts = accepts p bid s.puts })
  put_heard p bid a accepts_it i = puts_kept shape s (accepts p bid s.puts) k (λ b h. h) (record {
    seen_end = k.leases.seen_end;
    locked_after = k.leases.locked_after;
    taken_by_current = k.leases.taken_by_current;
    acceptance_answered = λ b j o l h. elim (or_cases ((b == bid) && ((j == p.index) && is_open (s.puts.status bid))) (s.puts.accepted b j) h) [
      | inl new ↦
          let blob = eqb-true b bid (and_left (b == bid) ((j == p.index) && is_open (s.puts.status bid)) new) in
          let index = eqb-true j p.index (and_left (j == p.index) (is_open (s.puts.status bid)) (and_right (b == bid) ((j == p.index) && is_open (s.puts.status bid)) new)) in
          record { by = pair (Request.Put p bid) a; given = i; accepts = subst (λ c. accepts_put c (Request.Put p bid) a ≡ true) (sym blob) accepts_it; index = sym index }
      | inr old ↦ k.leases.acceptance_answered b j o l old
    ];
  }) (record { durability = k.durability; sight = k.sight; succession = k.succession })

hears_all : (shape : VolumeShape) (s : State) (r : Request) (a : Answer) → Kept shape s → IsIn (pair r a) s.post.given → Kept shape (record s { manager = hear r a s.manager; puts = puts_hear r a s.puts })
hears_all shape s (Request.Put p b) Answer.Done k i = put_heard shape s k p b Answer.Done (equal_test b b refl) i
hears_all shape s (Request.Put p b) Answer.Already k i = put_heard shape s k p b Answer.Already (equal_test b b refl) i
hears_all shape s (Request.List p n) (Answer.Listing said shown) k i = listing_heard shape s k p n said shown i
hears_all shape s (Request.Copy p b) Answer.Done k i = live_heard shape s k p b (k.provenance.answers (pair (Request.Copy p b) Answer.Done) i)
hears_all shape s (Request.Copy p b) Answer.Already k i = live_heard shape s k p b (k.provenance.answers (pair (Request.Copy p b) Answer.Already) i)
hears_all shape s (Request.Copy p b) Answer.Deleted k i = marked_heard shape s k p b s.manager.marks (k.provenance.answers (pair (Request.Copy p b) Answer.Deleted) i) k.authority.hearing.mark_given
hears_all shape s (Request.Mark p b) Answer.Done k i = mark_heard shape s k p b Answer.Done refl i (k.provenance.answers (pair (Request.Mark p b) Answer.Done) i)
hears_all shape s (Request.Mark p b) Answer.Already k i = mark_heard shape s k p b Answer.Already refl i (k.provenance.answers (pair (Request.Mark p b) Answer.Already) i)
hears_all shape s (Request.Fence p n) Answer.Done k i = fence_heard shape s k p n i
hears_all shape s (Request.Release p) Answer.Done k i = release_heard shape s k p Answer.Done refl i
hears_all shape s (Request.Release p) (Answer.Stale have) k i = release_heard shape s k p (Answer.Stale have) refl i
hears_all shape s r a k i = k

pub hear_kept : (shape : VolumeShape) (s : State) (r : Request) (a : Answer) (t : State) → Kept shape s → Hears s r a t → Kept shape t
hear_kept shape s r a t k h = subst (Kept shape) (sym h.1) (hears_all shape s r a k h.0)
