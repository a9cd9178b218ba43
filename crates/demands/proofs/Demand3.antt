-- Demand 3: lesson seats cannot touch the tower. In the order in which they build on each other.
pub mod Blanking
pub mod WithoutLessons
pub mod LiveAir
pub mod LessonSeats
pub mod LessonCalls
pub mod Blotted
pub mod BenchAir
pub mod LiveOnAir
pub mod SentAudio
pub mod LiveCalls
pub mod LiveReports
pub mod LiveTicks
pub mod LivePackets
pub mod Apart
pub mod LessonsSeen
pub mod Undisturbed
pub mod AtMost
