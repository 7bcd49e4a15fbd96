use Rattle.std.proofs.Common.{◌==◌, if◌then◌else◌, replicate, set, refl, ◌∙◌}
use borrow.Rule.Slice.PartMut.{put_mid}
use Rattle.open_file.specs.FirstPage.{first_bytes}
use Rattle.open_file.proofs.WriteLemmas.{puts, Are64, part, kept, kept_but_one}
use Rattle.open_file.proofs.numbers.first_bytes.Goals as goal

pub returns : goal.returns
unfolding first_bytes
returns c =
    let header = c.args.header.now in
    let least = c.least-least.ensures.least in
    let greatest = c.greatest-greatest.ensures.greatest in
    let version = c.version.ensures ∙ λ i. if least i == greatest i then 1 else 2 in
    let told = c.least_told.ensures ∙ λ i. if least i == greatest i then 0 else least i in
    let bytes = puts 8 2 (λ i. put_mid 1 7 (set (replicate 64 0) 0 68) (c.copy_from_slice.ensures.after i)) version c.write_u16.ensures in
    let bytes = puts 10 2 bytes greatest c.write_u16-2.ensures in
    let bytes = puts 12 4 bytes (λ i. header.pages) c.write_u32.ensures in
    let bytes = puts 16 4 bytes (λ i. header.first_free) c.write_u32-2.ensures in
    let bytes = puts 20 4 bytes (λ i. header.free) c.write_u32-3.ensures in
    let bytes = puts 24 4 bytes (λ i. header.first_heap) c.write_u32-4.ensures in
    let bytes = puts 28 4 bytes (λ i. header.free_slot_page) c.write_u32-5.ensures in
    let bytes = puts 32 2 bytes (λ i. header.free_slot) c.write_u16-3.ensures in
    let bytes = puts 36 2 (λ i. set (bytes i) 34 (c.key_count.ensures.count i)) told c.write_u16-4.ensures in
    let bytes = puts 40 8 bytes (λ i. header.next_stamp) c.write_u64.ensures in
    puts 48 8 bytes (λ i. header.records) c.write_u64-2.ensures

-- the bytes before the text is written
start : Are64 (set (replicate 64 0) 0 68)
start = record { long = refl }

pub write_u32-requires-4 : goal.write_u32-requires-4
write_u32-requires-4 c =
    let long = kept 1 7 c.copy_from_slice.new.self start c.copy_from_slice.auto.self in
    let long = kept 8 2 c.write_u16.new.buf long c.write_u16.auto.buf in
    let long = kept 10 2 c.write_u16-2.new.buf long c.write_u16-2.auto.buf in
    let long = kept 12 4 c.write_u32.new.buf long c.write_u32.auto.buf in
    let long = kept 16 4 c.write_u32-2.new.buf long c.write_u32-2.auto.buf in
    let long = kept 20 4 c.write_u32-3.new.buf long c.write_u32-3.auto.buf in
    part 24 4 36 long refl

pub write_u32-requires-5 : goal.write_u32-requires-5
write_u32-requires-5 c =
    let long = kept 1 7 c.copy_from_slice.new.self start c.copy_from_slice.auto.self in
    let long = kept 8 2 c.write_u16.new.buf long c.write_u16.auto.buf in
    let long = kept 10 2 c.write_u16-2.new.buf long c.write_u16-2.auto.buf in
    let long = kept 12 4 c.write_u32.new.buf long c.write_u32.auto.buf in
    let long = kept 16 4 c.write_u32-2.new.buf long c.write_u32-2.auto.buf in
    let long = kept 20 4 c.write_u32-3.new.buf long c.write_u32-3.auto.buf in
    let long = kept 24 4 c.write_u32-4.new.buf long c.write_u32-4.auto.buf in
    part 28 4 32 long refl

pub write_u16-requires-3 : goal.write_u16-requires-3
write_u16-requires-3 c =
    let long = kept 1 7 c.copy_from_slice.new.self start c.copy_from_slice.auto.self in
    let long = kept 8 2 c.write_u16.new.buf long c.write_u16.auto.buf in
    let long = kept 10 2 c.write_u16-2.new.buf long c.write_u16-2.auto.buf in
    let long = kept 12 4 c.write_u32.new.buf long c.write_u32.auto.buf in
    let long = kept 16 4 c.write_u32-2.new.buf long c.write_u32-2.auto.buf in
    let long = kept 20 4 c.write_u32-3.new.buf long c.write_u32-3.auto.buf in
    let long = kept 24 4 c.write_u32-4.new.buf long c.write_u32-4.auto.buf in
    let long = kept 28 4 c.write_u32-5.new.buf long c.write_u32-5.auto.buf in
    part 32 2 30 long refl

pub write_u16-requires-4 : goal.write_u16-requires-4
write_u16-requires-4 c =
    let long = kept 1 7 c.copy_from_slice.new.self start c.copy_from_slice.auto.self in
    let long = kept 8 2 c.write_u16.new.buf long c.write_u16.auto.buf in
    let long = kept 10 2 c.write_u16-2.new.buf long c.write_u16-2.auto.buf in
    let long = kept 12 4 c.write_u32.new.buf long c.write_u32.auto.buf in
    let long = kept 16 4 c.write_u32-2.new.buf long c.write_u32-2.auto.buf in
    let long = kept 20 4 c.write_u32-3.new.buf long c.write_u32-3.auto.buf in
    let long = kept 24 4 c.write_u32-4.new.buf long c.write_u32-4.auto.buf in
    let long = kept 28 4 c.write_u32-5.new.buf long c.write_u32-5.auto.buf in
    let long = kept 32 2 c.write_u16-3.new.buf long c.write_u16-3.auto.buf in
    part 36 2 26 (kept_but_one 34 c.key_count.result long) refl

pub write_u64-requires : goal.write_u64-requires
write_u64-requires c =
    let long = kept 1 7 c.copy_from_slice.new.self start c.copy_from_slice.auto.self in
    let long = kept 8 2 c.write_u16.new.buf long c.write_u16.auto.buf in
    let long = kept 10 2 c.write_u16-2.new.buf long c.write_u16-2.auto.buf in
    let long = kept 12 4 c.write_u32.new.buf long c.write_u32.auto.buf in
    let long = kept 16 4 c.write_u32-2.new.buf long c.write_u32-2.auto.buf in
    let long = kept 20 4 c.write_u32-3.new.buf long c.write_u32-3.auto.buf in
    let long = kept 24 4 c.write_u32-4.new.buf long c.write_u32-4.auto.buf in
    let long = kept 28 4 c.write_u32-5.new.buf long c.write_u32-5.auto.buf in
    let long = kept 32 2 c.write_u16-3.new.buf long c.write_u16-3.auto.buf in
    let long = kept 36 2 c.write_u16-4.new.buf (kept_but_one 34 c.key_count.result long) c.write_u16-4.auto.buf in
    part 40 8 16 long refl

pub write_u64-requires-2 : goal.write_u64-requires-2
write_u64-requires-2 c =
    let long = kept 1 7 c.copy_from_slice.new.self start c.copy_from_slice.auto.self in
    let long = kept 8 2 c.write_u16.new.buf long c.write_u16.auto.buf in
    let long = kept 10 2 c.write_u16-2.new.buf long c.write_u16-2.auto.buf in
    let long = kept 12 4 c.write_u32.new.buf long c.write_u32.auto.buf in
    let long = kept 16 4 c.write_u32-2.new.buf long c.write_u32-2.auto.buf in
    let long = kept 20 4 c.write_u32-3.new.buf long c.write_u32-3.auto.buf in
    let long = kept 24 4 c.write_u32-4.new.buf long c.write_u32-4.auto.buf in
    let long = kept 28 4 c.write_u32-5.new.buf long c.write_u32-5.auto.buf in
    let long = kept 32 2 c.write_u16-3.new.buf long c.write_u16-3.auto.buf in
    let long = kept 36 2 c.write_u16-4.new.buf (kept_but_one 34 c.key_count.result long) c.write_u16-4.auto.buf in
    let long = kept 40 8 c.write_u64.new.buf long c.write_u64.auto.buf in
    part 48 8 8 long refl
