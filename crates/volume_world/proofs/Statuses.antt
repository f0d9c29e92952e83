-- What stays while puts go on.
use Rattle.std.proofs.Common.{◌≡◌, ℕ, Bool, true, List, Option, Some, None}
use Rattle.unit_id.specs.Lists.{is_in}
use Rattle.unit_id.specs.Place.{Location, Place}
use Rattle.code_mode.specs.VolumeShape.{VolumeShape}
use Rattle.unit_id.specs.Request.{Request, Answer}
use Rattle.blob_node.specs.Units.{RowState, Units}
use Rattle.volume_entry.specs.Manager.{Lock}
use Rattle.volume_world.specs.State.{Status, Puts, State}
use Rattle.volume_world.specs.BlobStatus.{is_begun, is_acked}
use Rattle.volume_world.specs.Provenance.{HasCause, IsBorneOut}
use Rattle.volume_world.specs.Leases.{Leases}
use Rattle.volume_world.specs.Durability.{Durability, IsHeld}
use Rattle.volume_world.specs.Sight.{Sight}
use Rattle.volume_world.specs.Succession.{Succession}
use Rattle.volume_world.specs.Authority.{IsLicensed}
use Rattle.volume_world.specs.Invariant.{Kept}

-- begun blobs stay begun
abbrev pub StaysBegun : (ℕ → Status) → (ℕ → Status) → Type 0
StaysBegun old new = (b : ℕ) → is_begun (old b) ≡ true → is_begun (new b) ≡ true

-- no blob is held that wasn't
abbrev pub NoneIsNewlyHeld : (ℕ → Status) → (ℕ → Status) → Type 0
NoneIsNewlyHeld old new = (b : ℕ) → is_acked (new b) ≡ true → is_acked (old b) ≡ true

cause_stays : (old new asked committed : Bool) (row : Option RowState) → (old ≡ true → new ≡ true) → HasCause old asked committed row → HasCause new asked committed row
cause_stays old new asked committed None stays h = h
cause_stays old new asked committed (Some RowState.Live) stays h = stays h
cause_stays old new asked committed (Some RowState.Marked) stays h = h
cause_stays old new asked committed (Some RowState.Gone) stays h = h

borne_out_stays : (old new : ℕ → Status) (asked : List ℕ) (units : Units) (r : Request) (a : Answer) → StaysBegun old new → IsBorneOut old asked units r a → IsBorneOut new asked units r a
borne_out_stays old new asked units (Request.List p n) (Answer.Listing said shown) stays h = record {
  live_begun = λ b e. stays b (h.live_begun b e);
  marked_begun = λ b e. stays b (h.marked_begun b e);
  marked_asked = h.marked_asked;
  live_stands = h.live_stands;
  marked_stands = h.marked_stands;
}
borne_out_stays old new asked units r a stays h = h

license_stays : (total : ℕ) (homes : List Location) (lock : Option Lock) (granted : ℕ) (asked committed : List ℕ) (old new : ℕ → Status) (broken : ℕ → Bool) (is_made : Place → Bool) (r : Request)
    → StaysBegun old new → IsLicensed total homes lock granted asked committed old broken is_made r → IsLicensed total homes lock granted asked committed new broken is_made r
license_stays total homes lock granted asked committed old new broken is_made (Request.Put p b) stays h = (stays b h.0, h.1)
license_stays total homes lock granted asked committed old new broken is_made (Request.Copy p b) stays h = stays b h
license_stays total homes lock granted asked committed old new broken is_made r stays h = h

pub held_before : (old new : ℕ → Status) (asked : List ℕ) (b : ℕ) → NoneIsNewlyHeld old new → IsHeld new asked b → IsHeld old asked b
held_before old new asked b none h = record { acked = none b h.acked; unasked = h.unasked }

-- the parts that speak of held blobs
pub record PartsOfHeld (shape : VolumeShape) (s : State) (status : ℕ → Status) : Type 0 where
  pub durability : Durability shape s.manager.homes s.broken s.units.row status s.manager.asked
  pub sight : Sight shape s.manager.homes s.manager.lock s.manager.heard s.broken s.units.row status s.manager.asked s.manager.committed s.post.given
  pub succession : Succession s.manager.homes s.manager.lock s.manager.doubt s.units.row status s.manager.asked s.manager.committed

pub held_parts : (shape : VolumeShape) (s : State) (status : ℕ → Status) → NoneIsNewlyHeld s.puts.status status → Kept shape s → PartsOfHeld shape s status
held_parts shape s status none k =
    let back = λ (b : ℕ) (h : IsHeld status s.manager.asked b). held_before s.puts.status status s.manager.asked b none h in
    record {
      durability = λ b h. k.durability b (back b h);
      sight = record {
        few_blind_live = λ l u b h. k.sight.few_blind_live l u b (back b h);
        few_blind_mark = k.sight.few_blind_mark;
        listings_given = k.sight.listings_given;
        live_rows_stand = k.sight.live_rows_stand;
        marked_rows_stand = k.sight.marked_rows_stand;
      };
      succession = record {
        holds_acked = λ e t i b h. k.succession.holds_acked e t i b (back b h);
        holds_committed = k.succession.holds_committed;
        is_current = k.succession.is_current;
      };
    }

-- with other puts, where begun blobs stay begun
pub puts_kept : (shape : VolumeShape) (s : State) (puts : Puts) → Kept shape s → StaysBegun s.puts.status puts.status
    → Leases s.manager.homes s.manager.lease_end s.manager.lock puts s.post.given s.time → PartsOfHeld shape s puts.status → Kept shape (record s { puts = puts })
puts_kept shape s puts k stays leases held = record {
  placement = k.placement;
  provenance = record {
    rows = λ p b. cause_stays (is_begun (s.puts.status b)) (is_begun (puts.status b)) (is_in b s.manager.asked) (is_in b s.manager.committed) (s.units.row p b) (stays b) (k.provenance.rows p b);
    answers = λ g i. borne_out_stays s.puts.status puts.status s.manager.asked s.units g.request g.answer stays (k.provenance.answers g i);
  };
  leases = leases;
  fencing = k.fencing;
  durability = held.durability;
  deletion = k.deletion;
  sight = held.sight;
  succession = held.succession;
  authority = record {
    requests = record {
      committed_asked = k.authority.requests.committed_asked;
      issued = λ r i. license_stays shape.total s.manager.homes s.manager.lock s.manager.granted s.manager.asked s.manager.committed s.puts.status puts.status s.broken s.units.is_made r stays (k.authority.requests.issued r i);
    };
    releases = k.authority.releases;
    hearing = k.authority.hearing;
    doubt_sound = k.authority.doubt_sound;
  };
  support = record {
    locks = k.support.locks;
    leases = k.support.leases;
    asks = record { asked_is_begun = λ b h. stays b (k.support.asks.asked_is_begun b h); doubtful_ask_is_begun = λ b h. stays b (k.support.asks.doubtful_ask_is_begun b h) };
    post = k.support.post;
    units = k.support.units;
  };
  form = k.form;
}
