pub mod BytesAsPages
pub mod Plans
pub mod WearingPages
pub mod FromFn
