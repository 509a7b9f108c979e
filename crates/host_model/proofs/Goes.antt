-- How a host in memory goes on, where its new state is known by an equation.
use Rattle.std.proofs.Common.{◌≡◌, ◌≤◌, ℕ, true, List, length, sym, subst}
use Rattle.host_model.specs.Disk.{are_bytes}
use Rattle.host_model.specs.Host.{Tears, Stays, Says, Goes}
use Rattle.host_model.specs.Calls.Call.{Wrote, Synced, Put}
use Rattle.host_model.specs.CallLaws.{write_goes, sync_goes, put_goes}
use Rattle.host_model.specs.MemHost.{MemHostState, shown_of, host_after, file_of}

pub goes_by_write : (old new : MemHostState) (at : ℕ) (bytes : List ℕ) → are_bytes bytes ≡ true → at ≤ length (file_of old)
    → new ≡ host_after (Wrote at bytes) old → Goes (Tears at (length bytes)) (shown_of old) (shown_of new)
goes_by_write old new at bytes b l e = subst (λ h. Goes (Tears at (length bytes)) (shown_of old) (shown_of h)) (sym e) (write_goes old at bytes b l)

pub goes_by_sync : (old new : MemHostState) → new ≡ host_after Synced old → Goes Stays (shown_of old) (shown_of new)
goes_by_sync old new e = subst (λ h. Goes Stays (shown_of old) (shown_of h)) (sym e) (sync_goes old)

pub goes_by_put : (old new : MemHostState) (piece : List ℕ) → new ≡ host_after (Put piece) old → Goes (Says piece) (shown_of old) (shown_of new)
goes_by_put old new piece e = subst (λ h. Goes (Says piece) (shown_of old) (shown_of h)) (sym e) (put_goes old piece)
