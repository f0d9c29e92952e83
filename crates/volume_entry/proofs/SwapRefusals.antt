-- What a table refuses by counts is what the manager's part refuses, for which table and memory stand.
use Rattle.std.proofs.Common.{◌≡◌, ◌∙◌, sym, ap, subst, ℕ, Bool, false, List, Option, None, Some}
use Rattle.code_mode.specs.VolumeShape.{VolumeShape}
use Rattle.volume_entry.specs.Manager.{Heard, HeardMark, Manager, is_swapped, transfers_of}
use Rattle.volume_entry.specs.ManagerStep.{commit_refusal, unlock_refusal, swap_refusal, has_unheard, mark_count}
use Rattle.volume_entry.specs.Reply.{Reply}
use Rattle.volume_entry.specs.Benchmark.{listed_count, is_unsettled}
use Rattle.volume_entry.specs.HeardMemory.{HeardMemory, Remembers}
use Rattle.volume_entry.specs.HeardCounts.{is_broken, unsettled_by}
use Rattle.volume_entry.specs.TableParts.{shape_of}
use Rattle.volume_entry.specs.Book.{BookOver}
use Rattle.volume_entry.specs.Entry.{logged, RefusesBy, RefusesFor}
use Rattle.volume_entry.specs.Unsettled.{Passes, IsLeast}
use Rattle.volume_entry.proofs.HeardSettling.{unsettled_tells}
use Rattle.volume_entry.specs.declared.event.ManagerReply.{ManagerReply}

-- a part with what was heard
abbrev pub knowing : Heard → List HeardMark → Manager → Manager
knowing heard marks part = record part { heard = heard; marks = marks }

module _ {E : Type 0} (book : BookOver E) (heard : HeardMemory) (result : Option ManagerReply) where
  at_part : (refusal : Manager → Option Reply) (m : Manager) → book.part ≡ logged m → RefusesBy result (refusal (knowing m.heard m.marks book.part)) → RefusesBy result (refusal (knowing m.heard m.marks (logged m)))
  at_part refusal m same r = subst (λ part. RefusesBy result (refusal (knowing m.heard m.marks part))) same r

  homes_of : (m : Manager) → book.part ≡ logged m → m.homes ≡ book.part.homes
  homes_of m same = ap (λ (p : Manager). p.homes) (sym same)

  transfers : (m : Manager) → book.part ≡ logged m → transfers_of book.part.lock ≡ transfers_of m.lock
  transfers m same = ap (λ (p : Manager). transfers_of p.lock) same

  pub commit_for : (shape : VolumeShape) (bid have : ℕ)
      → ((marks : List HeardMark) → have ≡ mark_count shape.total book.part.homes marks bid → RefusesBy result (commit_refusal shape bid (record (book.part) { marks = marks })))
      → ((size : ℕ) (m : Manager) → m.homes ≡ book.part.homes → Remembers size heard m → have ≡ mark_count shape.total m.homes m.marks bid)
      → RefusesFor book heard (commit_refusal shape bid) result
  commit_for shape bid have refuses counts = λ m same told.
      at_part (commit_refusal shape bid) m same
      (refuses m.marks (counts (shape_of book.shape).total m (homes_of m same) told ∙ ap (λ hs. mark_count shape.total hs m.marks bid) (homes_of m same)))

  pub unlock_for : (broken : List Bool) (task : ℕ) (unreleased : Bool)
      → ((flags : ℕ → Bool) (said : Heard) → unreleased ≡ has_unheard flags (transfers_of book.part.lock) said.released → RefusesBy result (unlock_refusal flags task (record (book.part) { heard = said })))
      → ((size : ℕ) (m : Manager) → Remembers size heard m → unreleased ≡ has_unheard (is_broken broken) (transfers_of book.part.lock) m.heard.released)
      → RefusesFor book heard (unlock_refusal (is_broken broken) task) result
  unlock_for broken task unreleased refuses tells = λ m same told.
      at_part (unlock_refusal (is_broken broken) task) m same (refuses (is_broken broken) m.heard (tells (shape_of book.shape).total m told))

  pub swap_for : (broken : List Bool) (task have : ℕ) (unfenced : Bool)
      → ((said : Heard) → unfenced ≡ has_unheard (is_broken broken) (transfers_of book.part.lock) said.fenced
      → (is_swapped book.part.lock ≡ false → have ≡ listed_count (shape_of book.shape).total book.part.homes (is_broken broken) said.listings)
      → RefusesBy result (swap_refusal (shape_of book.shape) (is_broken broken) task (record (book.part) { heard = said })))
      → ((size : ℕ) (m : Manager) → Remembers size heard m → unfenced ≡ has_unheard (is_broken broken) (transfers_of book.part.lock) m.heard.fenced)
      → ((m : Manager) → m.homes ≡ book.part.homes → is_swapped m.lock ≡ false → Remembers (shape_of book.shape).total heard m
      → have ≡ listed_count (shape_of book.shape).total m.homes (is_broken broken) m.heard.listings)
      → RefusesFor book heard (swap_refusal (shape_of book.shape) (is_broken broken) task) result
  swap_for broken task have unfenced refuses tells counts = λ m same told.
      at_part (swap_refusal (shape_of book.shape) (is_broken broken) task) m same
      (refuses m.heard (tells (shape_of book.shape).total m told)
      (λ unswapped.
      counts m (homes_of m same) (ap (λ (p : Manager). is_swapped p.lock) (sym same) ∙ unswapped) told
      ∙ ap (λ hs. listed_count (shape_of book.shape).total hs (is_broken broken) m.heard.listings) (homes_of m same)))

module _ {E : Type 0} (book : BookOver E) (heard : HeardMemory) (broken : List Bool) (found : Option ℕ) where
  pub least_tells : IsLeast (unsettled_by (shape_of book.shape) heard book.part.homes broken (transfers_of book.part.lock)) found
      → (m : Manager) → book.part ≡ logged m → is_swapped m.lock ≡ false → Remembers (shape_of book.shape).total heard m
      → IsLeast (is_unsettled (shape_of book.shape) m.homes (is_broken broken) (transfers_of m.lock) m.heard) found
  least_tells least m same unswapped told =
      let here : IsLeast (unsettled_by (shape_of book.shape) heard m.homes broken (transfers_of m.lock)) found =
      subst (λ (p : Manager). IsLeast (unsettled_by (shape_of book.shape) heard p.homes broken (transfers_of p.lock)) found) same least in
      let tells = unsettled_tells (shape_of book.shape) m heard broken unswapped told in
      record {
        passes = passes (unsettled_by (shape_of book.shape) heard m.homes broken (transfers_of m.lock)) (is_unsettled (shape_of book.shape) m.homes (is_broken broken) (transfers_of m.lock) m.heard) tells found here.passes;
        least = λ bid before. sym (tells bid) ∙ here.least bid before;
      }
    where
      passes : (f g : ℕ → Bool) → ((bid : ℕ) → f bid ≡ g bid) → (o : Option ℕ) → Passes f o → Passes g o
      passes f g same None p = tt
      passes f g same (Some bid) p = sym (same bid) ∙ p
