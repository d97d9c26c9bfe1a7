-- A store's part in use by its numbers, for the calls over stores.
use Rattle.std.specs.Prelude.{ℕ}
use Rattle.record.specs.declared.Held.{Held}
use Rattle.join.specs.Join.{Joined}

abbrev pub held : ℕ → ℕ → ℕ → Held
held used records axes = record { used = used; records = records; axes = axes }

abbrev pub joined : ℕ → ℕ → ℕ → ℕ → Joined
joined refusal used records axes = record { refusal = refusal; held = held used records axes }
