pub mod PageSize
