-- The records of a job of bytes fit their bytes, so that sewing's answer is listed as document 01 says.
use Rattle.std.specs.Prelude.{ℕ, ◌<◌, ◌≡◌, refl, List, length, get_or}
use Rattle.std.proofs.Common.{arith, sym, subst}
use Rattle.lists.specs.Lists.{◌∈◌}
use Rattle.lists.specs.Membership.{in_get_or}
use Rattle.lists.specs.Members.{flat_map_length}
use Rattle.lists.specs.KeepCounts.{sum_member}
use Rattle.rules.specs.Outcome.{Outcome, Ok, Err}
use Rattle.rules.proofs.OutcomeLaws.{ok_one, bind_ok}
use Rattle.rules.specs.Frame.{Record, framed, framed_all}
use Rattle.rules.specs.Load.{loaded}
use Rattle.rules.specs.declared.Rules.{Rules}
use Rattle.rules.specs.Body.{Body, body_records}
use Rattle.rules.specs.Sew.{rebuild, fitting, sewn, Ends}
use Rattle.rules.specs.Listing.{listing_of, sewn_records, listing}
use Rattle.fields.specs.Wrote.{Wrote, wrote_as}
use Rattle.theorems.specs.Narrow.{Below}
use Rattle.theorems.proofs.Narrow.{rebuilt_narrow}
use Rattle.lines.specs.Text.{recorded}
use Rattle.lines.specs.Exact.{Fits, AllFit, framed_length, room_listing, listing_is, Printed, prints}
use Rattle.lines.specs.Room.{Within, listed_small, sewn_within}

-- bytes place by place
pub bytes_below : (l : List ℕ) → ((i : ℕ) → get_or l i 0 < 256) → Below 256 l
bytes_below l h x m = let r = in_get_or 0 m in subst (λ y. y < 256) r.2 (h r.0)

-- AllFit by what the outcome can be
all_fit_by : (o : Outcome (List Record)) → ((rs : List Record) → o ≡ Ok rs → (r : Record) → r ∈ rs → Fits r) → AllFit o
all_fit_by (Ok rs) h = h rs refl
all_fit_by (Err r) h = tt

-- the records of a job of bytes fit their bytes
pub all_fit : (rules : Rules) (job : List ℕ) (room : ℕ) → Below 256 job → room < 4294967296 → AllFit (sewn_records rules job room)
unfolding sewn_records
all_fit rules job room bytes h = all_fit_by (sewn_records rules job room) (λ rs e r m.
    let a = bind_ok (loaded job) _ rs e in
    let b = bind_ok (rebuild rules a.0) _ rs a.2 in
    let body : Body = b.0 in
    let c = bind_ok (fitting room (framed_all (body_records body))) (λ _. Ok (body_records body)) rs b.2 in
    let i : r ∈ body_records body = subst (λ l. r ∈ l) (sym (ok_one c.2)) m in
    let narrow = rebuilt_narrow rules job a.0 body bytes a.1 b.1 r i in
    record {
      kind = narrow.0;
      size = omega (arith, subst (Within room) e (sewn_within rules job room), flat_map_length framed rs, sum_member (λ s. length (framed s)) m, framed_length r);
      fields = narrow.1;
    })

-- WHAT IS LISTED OF A JOB

-- the text of sewing's answer in so many bytes is that of the job's records
pub recorded_listing : (rules : Rules) (job before after : List ℕ) (e : Outcome ℕ) → Below 256 job → length before < 4294967296 → Ends (sewn rules job (length before)) before after e
    → listing_of (recorded after e) ≡ listing_of (sewn_records rules job (length before))
recorded_listing rules job before after e bytes h E = room_listing rules job before after e (all_fit rules job (length before) bytes h) E

-- what sewing a job makes of an output
abbrev pub SewnInto : Rules → List ℕ → List ℕ → List ℕ → Type 0
SewnInto rules job before after = (e : Outcome ℕ) × Ends (sewn rules job (length before)) before after e

pub sews : (rules : Rules) (job before after : List ℕ) (e : Outcome ℕ) → Ends (sewn rules job (length before)) before after e → SewnInto rules job before after
sews rules job before after e E = (e, E)

-- a page on which a job's listing was put: the place after the text, which is at most 196,608, and the whole text where the page has room
abbrev pub Lists : Rules → List ℕ → List ℕ → List ℕ → ℕ → Type 0
Lists rules job page printed r = Printed (listing rules job) page printed 196608 r

-- the text of sewing's answer is put as the job's listing
pub lists : (rules : Rules) (job before after page printed : List ℕ) (q : ℕ) (e : Outcome ℕ) → Below 256 job → length before ≡ 65536
    → Ends (sewn rules job (length before)) before after e → Wrote page 0 (listing_of (recorded after e)) printed q → Lists rules job page printed q
lists rules job before after page printed q e bytes n E w =
    let fit = all_fit rules job 65536 bytes (omega arith) in
    prints (listing rules job) page printed 196608 q
    (wrote_as page printed (listing_of (recorded after e)) (listing rules job) 0 q (listing_is rules job before after e fit n E) w)
    (listed_small (sewn_records rules job 65536) fit (sewn_within rules job 65536))
