-- Lemmas on the gets of an object's blobs.
use Rattle.std.proofs.Common.{◌≡◌, ℕ, zero, suc, ◌+◌, ◌<◌, ◌≤◌, inl, inr, true, List, [], ◌∷◌, ◌++◌, length, map, drop, get_or, Result, Ok, Err, refl, sym, ◌∙◌, ap, subst, append_assoc, append-nil, add-zero, add-one, below_more, arith}
use Rattle.std.specs.List.{range_with_len}
use Rattle.std.proofs.lemmas.List.{drop_all}
use Rattle.std.proofs.lemmas.List.FromFn.{length-map-range_with_len, get_or-map-range_with_len}
use Rattle.code_mode.specs.declared.mode.Mode.{Mode}
use Rattle.volume_world.specs.BlobStatus.{is_begun}
use Rattle.volume_world.specs.Run.{World}
use Rattle.volume_world.specs.Way.{Origin, WayView, shape_of}
use Rattle.volume_world.specs.Course.{Part, Goes, PartsLead}
use Rattle.volume_world.specs.Call.{Next}
use Rattle.volume_world.specs.Progress.{AllFit}
use Rattle.volume_world.proofs.PutsStay.{PutsStay}
use Rattle.volume_world.proofs.Stretches.{goes_on, leads_on}
use Rattle.volume_world.proofs.Comings.{fits_on}
use Rattle.volume_world.proofs.Telling.{entry_stays}
use Rattle.blob_access.specs.declared.fault.GetFault.{GetFault}
use Rattle.blob_access.specs.declared.fault.GetFault.TheVariants as faults
use Rattle.blob_access.specs.GetCall.{GetStage, get_call, GetsBy, IsPayload, Gets}
use Rattle.blob_access.proofs.PutLemmas.{goes_nowhere}
use Rattle.blob_access.proofs.ShortPuts.{rest_front}
use Rattle.blob_access.proofs.Later.{part_step}
use Rattle.object_access.specs.Pieces.{blob_count, blob_size, blob_sizes}
use Rattle.object_access.specs.ObjectGet.{ObjectGetsBy, joined_payloads, IsObject, ObjectGets}
use Rattle.object_access.specs.ObjectParts.{GetsBehind}
use Rattle.object_access.proofs.PutLemmas.{left_is, number_on}

-- ---- payloads

-- what is begun stays so over a stretch, with its payload
pub parts_stay : (origin : Origin) (w : World) (parts : List Part) (v : World) → PartsLead origin w parts v → PutsStay w.state.puts v.state.puts
parts_stay origin w [] v h = subst (λ (x : World). PutsStay w.state.puts x.state.puts) (sym h) (λ bid begun. record { begun = begun; payload = refl })
parts_stay origin w (part ∷ parts) v h = λ bid begun.
    let one = part_step origin w part h.0 h.1 in
    let next = entry_stays (shape_of origin) w one.0 h.0 one.1 bid begun in
    let last = parts_stay origin h.0 parts v h.2 bid next.begun in
    record { begun = last.begun; payload = last.payload ∙ next.payload }

joined_same : (old new : ℕ → List ℕ) (first count : ℕ) → ((k : ℕ) → k < count → new (first + k) ≡ old (first + k)) → joined_payloads new first count ≡ joined_payloads old first count
joined_same old new first zero same = refl
joined_same old new first (suc count) same =
    ap (λ bytes. bytes ++ new (first + count)) (joined_same old new first count (λ k below. same k (omega arith))) ∙ ap (λ bytes. joined_payloads old first count ++ bytes) (same count (omega arith))

pub object_stays : (w v : World) (first count : ℕ) (bytes : List ℕ) → PutsStay w.state.puts v.state.puts → IsObject w first count bytes → IsObject v first count bytes
object_stays w v first count bytes stay h = record {
  begun = λ k below. (stay (first + k) (h.begun k below)).begun;
  payloads = joined_same w.state.puts.payload v.state.puts.payload first count (λ k below. (stay (first + k) (h.begun k below)).payload) ∙ h.payloads;
}

pub object_more : (v : World) (first place : ℕ) (before blob : List ℕ) → IsObject v first place before → IsPayload v (first + place) blob → IsObject v first (place + 1) (before ++ blob)
object_more v first place before blob h p = record {
  begun = below_more (λ k. is_begun (v.state.puts.status (first + k)) ≡ true) place h.begun p.begun;
  payloads = ap (λ count. joined_payloads v.state.puts.payload first count) (add-one place)
      ∙ ap (λ bytes. bytes ++ v.state.puts.payload (first + place)) h.payloads
      ∙ ap (λ bytes. before ++ bytes) p.payload;
}

pub object_none : (v : World) (first : ℕ) → IsObject v first 0 []
object_none v first = record { begun = λ k below. absurd (omega arith); payloads = refl }

-- ---- one blob

-- a get that is whole may be out of memory behind its end
pub gets_forgotten : (a b : WayView) (number size : ℕ) (blob : List ℕ) → Gets a b number size (Ok blob) → Gets a b number size (Err faults.Memory)
gets_forgotten a b number size blob h = record {
  parts = h.parts;
  goes = h.goes;
  fits = h.fits;
  call = rest_front (get_call (record { mode = a.origin.mode; bid = number; size = size })) (Next.Go GetStage.First) h.parts (Ok blob) h.call;
  full = λ e. absurd (cc e);
  bytes = λ told. tt;
}

pub blob_refused : (a b : WayView) (number size : ℕ) (before after : List ℕ) (result : Result (Unit {0}) GetFault) (fault : GetFault) → result ≡ Err fault → Gets a b number size (Err fault)
    → GetsBehind a b number size before after result
blob_refused a b number size before after result why given h = subst (λ r. GetsBehind a b number size before after r) (sym given) h

-- ---- the loop

-- the blobs before this place are got, and whatever is asked behind that for the others, all of it gets the object
pub record HasGot (a b : WayView) (first : ℕ) (sizes : List ℕ) (place : ℕ) (before : List ℕ) : Type 0 where
  pub parts : List Part
  pub goes : Goes a b parts
  pub fits : AllFit a.origin parts
  pub call : (rest : List Part) (result : Result (List ℕ) GetFault) → ObjectGetsBy a.origin.mode (first + place) (drop place sizes) before rest result
      → ObjectGetsBy a.origin.mode first sizes [] (parts ++ rest) result
  pub told : a.origin.is_told ≡ true → (w : World) → a.is_at w → (v : World) × PartsLead a.origin w parts v × b.is_at v × IsObject v first place before

pub got_none : (a : WayView) (first : ℕ) (sizes before : List ℕ) → before ≡ [] → HasGot a a first sizes 0 before
got_none a first sizes before empty = subst (λ bytes. HasGot a a first sizes 0 bytes) (sym empty) (record {
  parts = [];
  goes = goes_nowhere a;
  fits = tt;
  call = λ rest result h. subst (λ number. ObjectGetsBy a.origin.mode number sizes [] rest result) (add-zero first) h;
  told = λ told w at. (w, refl, at, object_none w first);
})

-- the get of a blob as one of the mode that the volume had when the object's get began
get_by_mode : (a b : WayView) (parts own : List Part) (number size : ℕ) (result : Result (List ℕ) GetFault) → Goes a b parts → GetsBy (record { mode = b.origin.mode; bid = number; size = size }) own result
    → GetsBy (record { mode = a.origin.mode; bid = number; size = size }) own result
get_by_mode a b parts own number size result goes h = subst (λ (o : Origin). GetsBy (record { mode = o.mode; bid = number; size = size }) own result) goes.origin h

-- behind a blob that is got come the others
get_further : (mode : Mode) (first place : ℕ) (sizes : List ℕ) (size : ℕ) (before blob : List ℕ) (own rest : List Part) (result : Result (List ℕ) GetFault) → place < length sizes
    → size ≡ get_or sizes place 0 → GetsBy (record { mode = mode; bid = first + place; size = size }) own (Ok blob)
    → ObjectGetsBy mode (first + (place + 1)) (drop (place + 1) sizes) (before ++ blob) rest result → ObjectGetsBy mode (first + place) (drop place sizes) before (own ++ rest) result
get_further mode first place sizes size before blob own rest result below is gets others =
    subst (λ left. ObjectGetsBy mode (first + place) left before (own ++ rest) result) (sym (left_is sizes place size 0 below is))
    (inl (blob, rest, record { own = own; split = refl; gets = gets }, subst (λ number. ObjectGetsBy mode number (drop (place + 1) sizes) (before ++ blob) rest result) (number_on first place) others))

get_no_further : (mode : Mode) (first place : ℕ) (sizes : List ℕ) (size : ℕ) (before : List ℕ) (own : List Part) (fault : GetFault) → place < length sizes → size ≡ get_or sizes place 0
    → GetsBy (record { mode = mode; bid = first + place; size = size }) own (Err fault) → ObjectGetsBy mode (first + place) (drop place sizes) before own (Err fault)
get_no_further mode first place sizes size before own fault below is gets =
    subst (λ left. ObjectGetsBy mode (first + place) left before own (Err fault)) (sym (left_is sizes place size 0 below is)) (inr (record { fault = fault; gets = gets; given = refl }))

-- where the volume may be behind one blob more
told_more : (a b c : WayView) (first place size : ℕ) (before blob : List ℕ) (parts : List Part) → Goes a b parts
    → (a.origin.is_told ≡ true → (w : World) → a.is_at w → (v : World) × PartsLead a.origin w parts v × b.is_at v × IsObject v first place before) → (p : Gets b c (first + place) size (Ok blob))
    → a.origin.is_told ≡ true → (w : World) → a.is_at w → (v : World) × PartsLead a.origin w (parts ++ p.parts) v × c.is_at v × IsObject v first (place + 1) (before ++ blob)
told_more a b c first place size before blob parts goes so_far p told w at =
    let one = so_far told w at in
    let two = p.bytes (ap (λ (o : Origin). o.is_told) goes.origin ∙ told) one.0 one.2 in
    let lead = subst (λ (o : Origin). PartsLead o one.0 p.parts two.0) goes.origin two.1 in
    (two.0, leads_on a.origin w one.0 two.0 parts p.parts one.1 lead, two.2, object_more two.0 first place before blob (object_stays one.0 two.0 first place before (parts_stay a.origin one.0 p.parts two.0 lead) one.3) two.3)

-- one blob more is got
pub got_more : (a b c : WayView) (first : ℕ) (sizes : List ℕ) (place size : ℕ) (before blob : List ℕ) → place < length sizes → size ≡ get_or sizes place 0 → HasGot a b first sizes place before
    → Gets b c (first + place) size (Ok blob) → HasGot a c first sizes (place + 1) (before ++ blob)
got_more a b c first sizes place size before blob below is h p = record {
  parts = h.parts ++ p.parts;
  goes = goes_on a b c h.parts p.parts h.goes p.goes;
  fits = fits_on a.origin h.parts p.parts h.fits (subst (λ (o : Origin). AllFit o p.parts) h.goes.origin p.fits);
  call = λ rest result others.
      subst (λ parts. ObjectGetsBy a.origin.mode first sizes [] parts result) (sym (append_assoc h.parts p.parts rest))
      (h.call (p.parts ++ rest) result (get_further a.origin.mode first place sizes size before blob p.parts rest result below is (get_by_mode a b h.parts p.parts (first + place) size (Ok blob) h.goes p.call) others));
  told = told_more a b c first place size before blob h.parts h.goes h.told p;
}

-- the get of the blob at a place, by what it answers
pub got_next : (a b c : WayView) (first : ℕ) (sizes : List ℕ) (place number size : ℕ) (before after : List ℕ) (done : Unit {0}) → place < length sizes → size ≡ get_or sizes place 0 → number ≡ first + place
    → HasGot a b first sizes place before → GetsBehind b c number size before after (Ok done) → HasGot a c first sizes (place + 1) after
got_next a b c first sizes place number size before after done below is at h p =
    subst (λ bytes. HasGot a c first sizes (place + 1) bytes) (sym p.2)
    (got_more a b c first sizes place size before p.0 below is h (subst (λ n. Gets b c n size (Ok p.0)) at p.1))

-- nothing is got where there is no room
pub nothing_got : (a : WayView) (first size : ℕ) (result : Result (List ℕ) GetFault) → 0 < blob_count size → result ≡ Err faults.Memory → ObjectGets a a first size result
nothing_got a first size result some given = subst (λ r. ObjectGets a a first size r) (sym given) (record {
  parts = [];
  goes = goes_nowhere a;
  fits = tt;
  call = go (blob_count size) some;
  full = λ e. absurd (cc e);
  bytes = λ told. tt;
}) where
  go : (count : ℕ) → 0 < count → ObjectGetsBy a.origin.mode first (map (blob_size size) (range_with_len 0 count)) [] [] (Err faults.Memory)
  go zero h = absurd (omega arith)
  go (suc count) h = inr (record { fault = faults.Memory; gets = tt; given = refl })

-- a blob is refused behind those that are got
pub got_stops : (a b c : WayView) (first size : ℕ) (place number own : ℕ) (before after : List ℕ) (fault : GetFault) (result : Result (List ℕ) GetFault) → place < length (blob_sizes size)
    → own ≡ get_or (blob_sizes size) place 0 → number ≡ first + place → result ≡ Err fault → HasGot a b first (blob_sizes size) place before → GetsBehind b c number own before after (Err fault)
    → ObjectGets a c first size result
got_stops a b c first size place number own before after fault result below is at given h q =
    let p = subst (λ n. Gets b c n own (Err fault)) at q in
    subst (λ r. ObjectGets a c first size r) (sym given) (record {
      parts = h.parts ++ p.parts;
      goes = goes_on a b c h.parts p.parts h.goes p.goes;
      fits = fits_on a.origin h.parts p.parts h.fits (subst (λ (o : Origin). AllFit o p.parts) h.goes.origin p.fits);
      call = h.call p.parts (Err fault)
          (get_no_further a.origin.mode first place (blob_sizes size) own before p.parts fault below is (get_by_mode a b h.parts p.parts (first + place) own (Err fault) h.goes p.call));
      full = p.full;
      bytes = λ told. tt;
    })

-- all blobs are got
pub got_all : (a b : WayView) (first size place : ℕ) (before : List ℕ) → place ≡ blob_count size → HasGot a b first (blob_sizes size) place before → ObjectGets a b first size (Ok before)
got_all a b first size place before over h = record {
  parts = h.parts;
  goes = h.goes;
  fits = h.fits;
  call = subst (λ parts. ObjectGetsBy a.origin.mode first (blob_sizes size) [] parts (Ok before)) (append-nil h.parts)
      (h.call [] (Ok before) (subst (λ left. ObjectGetsBy a.origin.mode (first + place) left before [] (Ok before)) (sym (drop_all place (blob_sizes size) past)) (refl, refl)));
  full = λ e. absurd (cc e);
  bytes = λ told w at. let last = h.told told w at in (last.0, last.1, last.2, subst (λ count. IsObject last.0 first count before) over last.3);
} where
  past : length (blob_sizes size) ≤ place
  past = let count : length (blob_sizes size) ≡ blob_count size = length-map-range_with_len (blob_size size) 0 (blob_count size) in omega (arith, count, over)

-- the size of the blob at a place
pub size_at : (size place : ℕ) → place < blob_count size → blob_size size place ≡ get_or (blob_sizes size) place 0
size_at size place below = sym (get_or-map-range_with_len (blob_size size) 0 (blob_count size) place place 0 below (omega arith))

pub place_there : (size place : ℕ) → place < blob_count size → place < length (blob_sizes size)
place_there size place below = subst (λ n. place < n) (sym (length-map-range_with_len (blob_size size) 0 (blob_count size))) below
